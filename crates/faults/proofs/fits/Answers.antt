use Rattle.faults.proofs.Slots.{slot_offset, slot_from, slot_ends}
use Rattle.faults.proofs.fits.Goals as goal

pub overflow_mul-at : goal.overflow_mul-at
overflow_mul-at c = search slot_offset

pub overflow_add-at : goal.overflow_add-at
overflow_add-at c = search slot_from

pub slots_ok-requires-clause-width_in_bounds : goal.slots_ok-requires-clause-width_in_bounds
slots_ok-requires-clause-width_in_bounds c =
    search slot_ends
