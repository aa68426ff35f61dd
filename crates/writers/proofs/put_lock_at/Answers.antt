use Rattle.writers.proofs.PutLaws.{put_lock_is}
use Rattle.writers.proofs.put_lock_at.Goals as goal

pub returns : goal.returns
returns c = search put_lock_is
