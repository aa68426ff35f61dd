use mathlib.Core.Path.{◌≡◌}
use Prim.Native.Nat.{◌+◌, ◌≤◌}
use lib.ListN.{length, drop}
use Rattle.region.specs.Region.{view}
use Rattle.model.specs.Store.{rows_in}
use Rattle.model.specs.Due.{due_lines}
use Rattle.kept.proofs.count_flagged.Given as goal

abbrev pub invariant-loop-i : goal.invariant-loop-i
invariant-loop-i l = (l.due + length (due_lines (view l.region) (drop l.i (rows_in (view l.region).prepared))) ≡ length (due_lines (view l.region) (rows_in (view l.region).prepared))) × (l.due ≤ l.i)
