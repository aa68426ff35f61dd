use Rattle.edits.proofs.Lists.{times_fits, place_fits, end_fits, record_room, registered_or}
use Rattle.edits.proofs.edit_at.Goals as goal

pub overflow_mul-at : goal.overflow_mul-at
overflow_mul-at c = search times_fits

pub overflow_add-at : goal.overflow_add-at
overflow_add-at c = search place_fits

pub overflow_add-e : goal.overflow_add-e
overflow_add-e c = search end_fits

pub slice_bounds-get_edit-end : goal.slice_bounds-get_edit-end
slice_bounds-get_edit-end c = search record_room

pub returns : goal.returns
returns c = registered_or _ _ _ c.requires.registered c.requires.i_in_bounds c.get_edit.ensures _ _ c.unwrap_or.ensures
