use Rattle.writers.proofs.LineLaws.{keep_is}
use Rattle.writers.proofs.keep_lines.Goals as goal

pub returns : goal.returns
returns c = search (keep_is, c.fill.ensures.after (λ y e. e))
