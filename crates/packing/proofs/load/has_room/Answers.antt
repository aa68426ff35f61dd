use native.Mathlib.Omega.{arith}
use Rattle.names.proofs.Pieces.{byte_within}
use Rattle.packing.proofs.Loading.{next_left, next_line, count_start, count_end, count_stop, count_on}
use Rattle.packing.proofs.load.has_room.Goals as goal

pub loop-left-init : goal.loop-left-init
loop-left-init c = search count_start

pub slice_bounds-held_with-end : goal.slice_bounds-held_with-end
slice_bounds-held_with-end c = search next_line

pub held_with-more-requires-clause-held_bound : goal.held_with-more-requires-clause-held_bound
held_with-more-requires-clause-held_bound c =
    c.loop-left.invariant.few

pub returns-then-more-gt-LIMIT : goal.returns-then-more-gt-LIMIT
returns-then-more-gt-LIMIT c = search count_stop

pub overflow_add-rest : goal.overflow_add-rest
overflow_add-rest c = omega (arith, byte_within 10 c.loop-left.rest.now)

pub slice_bounds-rest-count : goal.slice_bounds-rest-count
slice_bounds-rest-count c = search next_left

pub slice_bounds-rest-start : goal.slice_bounds-rest-start
slice_bounds-rest-start c = search next_left

pub loop-left-preserved : goal.loop-left-preserved
loop-left-preserved c = search count_on

pub returns : goal.returns
returns c = search count_end
