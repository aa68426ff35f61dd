use Rattle.region.proofs.ReadLaws.{packed_read}
use Rattle.region.proofs.packed_at.Goals as goal

pub returns : goal.returns
returns c = search packed_read
