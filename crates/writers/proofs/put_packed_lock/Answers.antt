use Rattle.writers.proofs.PutLaws.{put_packed_lock_is}
use Rattle.writers.proofs.put_packed_lock.Goals as goal

pub returns : goal.returns
returns c = search put_packed_lock_is
