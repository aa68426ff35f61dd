use Rattle.slots.proofs.Laws.{put_lock_is}
use Rattle.slots.proofs.put_lock.Goals as goal

pub returns : goal.returns
returns c = search put_lock_is
