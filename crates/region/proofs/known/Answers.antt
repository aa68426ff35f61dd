use Rattle.region.proofs.ReadLaws.{known_is}
use Rattle.region.proofs.known.Goals as goal

pub returns : goal.returns
returns c = search known_is
