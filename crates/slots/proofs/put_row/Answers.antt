use Rattle.slots.proofs.Laws.{far_start, far_room, far_more, width_fits, far_end}
use Rattle.slots.proofs.put_row.Goals as goal

-- src/lib.rt:482:5
pub loop-i-init : goal.loop-i-init
loop-i-init c = search far_start

-- src/lib.rt:484:9
pub put_at-requires : goal.put_at-requires
put_at-requires c = search far_room

-- src/lib.rt:485:9
pub overflow_add-at : goal.overflow_add-at
overflow_add-at c = search width_fits

-- src/lib.rt:482:5
pub loop-i-preserved : goal.loop-i-preserved
loop-i-preserved c = search far_more

-- src/lib.rt:475:1
pub returns : goal.returns
returns c = search far_end
