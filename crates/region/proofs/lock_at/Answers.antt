use Rattle.region.proofs.ReadLaws.{lock_read}
use Rattle.region.proofs.lock_at.Goals as goal

pub returns : goal.returns
returns c = search lock_read
