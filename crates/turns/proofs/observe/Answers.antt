use Rattle.turns.proofs.Judges.{observed_is}
use Rattle.turns.proofs.observe.Goals as goal

pub returns : goal.returns
returns c = search observed_is
