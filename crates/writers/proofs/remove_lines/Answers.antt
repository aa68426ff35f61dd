use native.Mathlib.Omega.{arith}
use Rattle.writers.proofs.LineLaws.{far_start, far_more, far_end, far_room}
use Rattle.writers.proofs.remove_lines.Goals as goal

pub loop-i-init : goal.loop-i-init
loop-i-init c = search far_start

pub move_line-j-requires-clause-i_in_bounds : goal.move_line-j-requires-clause-i_in_bounds
move_line-j-requires-clause-i_in_bounds c =
    (omega arith, omega arith)

pub loop-i-preserved : goal.loop-i-preserved
loop-i-preserved c = search far_more

pub keep_lines-requires-clause-j_in_bounds : goal.keep_lines-requires-clause-j_in_bounds
keep_lines-requires-clause-j_in_bounds c =
    search far_room

pub returns : goal.returns
returns c =
    far_end _ _ _ _ _ _ _ c.loop-i.invariant c.loop-i-test.false c.keep_lines.ensures
