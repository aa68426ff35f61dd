use Rattle.splits.proofs.Laws.{child_is}
use Rattle.splits.proofs.child.Goals as goal

pub returns : goal.returns
returns c = search child_is
