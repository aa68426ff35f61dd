use Prim.Native.Nat.{◌≤◌}
use mathlib.Core.Path.{◌≡◌}
use lib.ListN.{length, drop}
use Rattle.word.proofs.same.Given as goal

-- `word::same` meets its contract: past the bytes that are left, the two are the same. Assumes nothing.
abbrev pub invariant-loop-i : goal.invariant-loop-i
invariant-loop-i l = (l.i ≤ length l.a) × (drop l.i l.a ≡ drop l.i l.b)
