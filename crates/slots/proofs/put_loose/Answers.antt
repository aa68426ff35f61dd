use Rattle.slots.proofs.Laws.{put_loose_is}
use Rattle.slots.proofs.put_loose.Goals as goal

pub returns : goal.returns
returns c = search put_loose_is
