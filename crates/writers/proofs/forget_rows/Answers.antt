use Rattle.writers.proofs.RowLaws.{forget_is}
use Rattle.writers.proofs.forget_rows.Goals as goal

pub returns : goal.returns
returns c = search (forget_is, c.fill.ensures.after (λ y e. e))
