use Rattle.slots.proofs.Laws.{put_packed_none, put_packed_object}
use Rattle.slots.proofs.put_packed.Goals as goal

pub returns-in-None : goal.returns-in-None
returns-in-None c = search put_packed_none

pub returns-in-Some : goal.returns-in-Some
returns-in-Some c = search put_packed_object
