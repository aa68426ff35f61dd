use mathlib.Core.Path.{sym, ◌∙◌}
use native.Mathlib.Omega.{arith}
use Rattle.names.proofs.Pieces.{byte_within}
use Rattle.packing.proofs.Loading.{next_left, next_line, load_start, load_end, load_line, load_on}
use Rattle.packing.proofs.load.load_lines.Goals as goal

pub loop-left-init : goal.loop-left-init
loop-left-init c = search load_start

pub slice_bounds-load_line-end : goal.slice_bounds-load_line-end
slice_bounds-load_line-end c = search next_line

pub load_line-requires-clause-laid : goal.load_line-requires-clause-laid
load_line-requires-clause-laid c =
    c.loop-left.invariant.laid

pub load_line-requires-clause-line_loads : goal.load_line-requires-clause-line_loads
load_line-requires-clause-line_loads c =
    load_line _ _ _ _ _ _ c.loop-left.invariant c.loop-left-test.true _ c.up_to-length.ensures

pub overflow_add-rest : goal.overflow_add-rest
overflow_add-rest c = omega (arith, byte_within 10 c.loop-left.rest.now)

pub slice_bounds-rest-count : goal.slice_bounds-rest-count
slice_bounds-rest-count c = search next_left

pub slice_bounds-rest-start : goal.slice_bounds-rest-start
slice_bounds-rest-start c = search next_left

pub loop-left-preserved : goal.loop-left-preserved
loop-left-preserved c = search load_on

pub shape_of-region : goal.shape_of-region
shape_of-region c = c.loop-left.invariant.laid.size ∙ sym c.requires.laid.size

pub returns : goal.returns
returns c = search load_end
