use Rattle.receiver.proofs.Laws.{fresh_zeros}
use Rattle.receiver.proofs.make_fresh.Goals as goal

pub returns : goal.returns
returns c = fresh_zeros _ _ c.requires (c.fill.ensures.after (λ y e. e))
