use Rattle.region.proofs.ReadLaws.{loose_read}
use Rattle.region.proofs.loose_at.Goals as goal

pub returns : goal.returns
returns c = search loose_read
