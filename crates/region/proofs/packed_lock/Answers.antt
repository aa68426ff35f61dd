use Rattle.region.proofs.ReadLaws.{packed_lock_read}
use Rattle.region.proofs.packed_lock.Goals as goal

pub returns : goal.returns
returns c = search packed_lock_read
