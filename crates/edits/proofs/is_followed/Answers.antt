use Rattle.edits.proofs.Lists.{times_fits, place_fits, flag_fits, flag_room, followed}
use Rattle.edits.proofs.is_followed.Goals as goal

pub overflow_mul-at : goal.overflow_mul-at
overflow_mul-at c = search times_fits

pub overflow_add-at : goal.overflow_add-at
overflow_add-at c = search place_fits

pub overflow_add-at-2 : goal.overflow_add-at-2
overflow_add-at-2 c = search flag_fits

pub byte_at-requires : goal.byte_at-requires
byte_at-requires c = search flag_room

pub returns : goal.returns
returns c = search followed
