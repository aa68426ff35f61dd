use mathlib.Core.Path.{◌≡◌}
use Prim.Native.Nat.{◌≤◌}
use lib.ListN.{length}
use Rattle.ordering.specs.Order.{Opened}
use Rattle.ordering.proofs.open.Given as goal

-- `open` meets its contract: the numbers from i on have moved. Assumes nothing.
abbrev pub invariant-loop-i : goal.invariant-loop-i
invariant-loop-i l = (l.at ≤ l.i) × (l.i ≤ l.held) × (length l.numbers ≡ length l.initial.numbers) × Opened l.initial.numbers l.i l.held l.numbers
