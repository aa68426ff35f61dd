use Rattle.texts.proofs.Walking.{at_start, checked}
use Rattle.texts.proofs.walk.check.Goals as goal

pub loop-ending-init : goal.loop-ending-init
loop-ending-init c =
    let h = c.default-place.ensures in
    at_start c.args.text.now _ h.0 h.1.0 h.1.1.0 h.1.1.1.0 h.1.1.1.1.0 (cc)

pub next_line-requires : goal.next_line-requires
next_line-requires c = c.loop-ending.invariant

pub returns-in-Break : goal.returns-in-Break
returns-in-Break c = checked _ _ _ _ c.loop-ending.invariant c.next_line.ensures c.in-Break.is
