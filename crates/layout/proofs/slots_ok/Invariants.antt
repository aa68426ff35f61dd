use mathlib.Core.Bool.{true}
use mathlib.Core.Path.{◌≡◌}
use Prim.Native.Nat.{◌≤◌}
use Rattle.word.specs.Codec.{ok_table}
use Rattle.layout.specs.Tables.{test_of}
use Rattle.layout.proofs.slots_ok.Given as goal

abbrev pub invariant-loop-i : goal.invariant-loop-i
invariant-loop-i l = (l.i ≤ l.n) × (ok_table l.width (test_of l.table) l.i l.n l.base l.region ≡ true)
