use Rattle.splits.proofs.Laws.{settled_is}
use Rattle.splits.proofs.settled_with.Goals as goal

pub returns : goal.returns
returns c = search settled_is
