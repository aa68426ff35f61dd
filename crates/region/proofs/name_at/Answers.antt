use Rattle.region.proofs.ReadLaws.{name_is}
use Rattle.region.proofs.name_at.Goals as goal

pub returns : goal.returns
returns c = search name_is
