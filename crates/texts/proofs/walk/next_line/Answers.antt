use native.Mathlib.Omega.{arith}
use Rattle.texts.proofs.Walking.{line_part, roomy, stops, moves}
use Rattle.texts.proofs.walk.next_line.Goals as goal

pub returns-then-length-rest : goal.returns-then-length-rest
returns-then-length-rest c = search stops

pub slice_bounds-line_said-end : goal.slice_bounds-line_said-end
slice_bounds-line_said-end c = search line_part

pub past-requires : goal.past-requires
past-requires c =
    roomy c.args.text.now c.args.place c.requires _ c.up_to-length.ensures (omega arith)

pub returns : goal.returns
returns c = search moves
