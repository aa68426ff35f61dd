use Rattle.steps.proofs.Laws.{released_is}
use Rattle.steps.proofs.release.Goals as goal

pub returns : goal.returns
returns c = search released_is
