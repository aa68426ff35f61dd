use Rattle.splits.proofs.Twice.{repeats_so}
use Rattle.splits.proofs.repeats.Goals as goal

pub returns : goal.returns
returns c = search repeats_so
