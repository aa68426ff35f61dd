use Rattle.std.specs.Prelude.{not}
use Rattle.std.proofs.Common.{ap, refl, ◌∙◌}
use Rattle.calls.proofs.Replies.{good_laid, bad_region, some_or, nothing_or}
use Rattle.reads.proofs.Laws.{line_far, line_none, line_done}
use Rattle.reads.proofs.read_line.Goals as goal

pub returns-then-not-is_good : goal.returns-then-not-is_good
returns-then-not-is_good c = search bad_region

pub known-requires : goal.known-requires
known-requires c = search good_laid

pub returns-in_err-n : goal.returns-in_err-n
returns-in_err-n c = nothing_or c.ok_or.ensures.value c.in_err-n.was c.from_residual.ensures.1 (λ h. search line_far)

pub find_line-requires : goal.find_line-requires
find_line-requires c = search good_laid

pub returns-in_err-line : goal.returns-in_err-line
returns-in_err-line c =
    let n = some_or c.ok_or.ensures.ok_part c.in_ok-n.was in
    nothing_or c.ok_or-2.ensures.value c.in_err-line.was c.from_residual-in_err-line.ensures.1 (λ h. search line_none)

pub returns : goal.returns
returns c =
    let n = some_or c.ok_or.ensures.ok_part c.in_ok-n.was in
    let line = some_or c.ok_or-2.ensures.ok_part c.in_ok-line.was in
    line_done _ _ c.is_good.ensures (ap not c.if-not-is_good.false) _ _ c.known.ensures _ n _ _ c.find_line.ensures _ _ line (c.done.ensures ∙ rw (c.from.ensures, c.from-2.ensures) refl)
