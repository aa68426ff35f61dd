use Prim.Native.Nat.{◌≤◌}
use mathlib.Core.Path.{◌≡◌}
use lib.ListN.{length, take}
use Rattle.word.proofs.copy.Given as goal

-- `word::copy` meets its contract: the first i bytes are the source's. Assumes nothing.
abbrev pub invariant-loop-i : goal.invariant-loop-i
invariant-loop-i l = (l.i ≤ length l.dst) × (length l.dst ≡ length l.initial.dst) × (take l.i l.dst ≡ take l.i l.src)
