use Rattle.writers.proofs.PutLaws.{forget_packed_is}
use Rattle.writers.proofs.forget_packed.Goals as goal

pub returns : goal.returns
returns c = search (forget_packed_is, c.fill.ensures.after (λ y e. e))
