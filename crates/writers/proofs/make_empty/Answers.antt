use Rattle.writers.proofs.PutLaws.{empty_is}
use Rattle.writers.proofs.make_empty.Goals as goal

pub returns : goal.returns
returns c = search (empty_is, c.fill.ensures.after (λ y e. e))
