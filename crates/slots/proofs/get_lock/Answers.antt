use Rattle.slots.proofs.Laws.{ok_of_or, lock_in_lem}
use Rattle.slots.proofs.get_lock.Goals as goal

pub returns : goal.returns
returns c = lock_in_lem _ _ _ c.requires c.get.ensures (ok_of_or _ _ _ _ c.ok.ensures.value c.try_from.ensures)
