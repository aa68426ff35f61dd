use Prim.Native.Nat.{◌≤◌}
use mathlib.Core.Path.{◌≡◌}
use lib.ListN.{length, take}
use lib.Dec.{eqb}
use Rattle.word.specs.Codec.{zeros}
use Rattle.word.proofs.all_zero.Given as goal

-- `word::all_zero` meets its contract: the greatest of the bytes passed is 0 exactly where all of them are. Assumes nothing.
abbrev pub invariant-loop-byte : goal.invariant-loop-byte
invariant-loop-byte l = (l.byte-index ≤ length l.s) × (eqb l.most 0 ≡ zeros (take l.byte-index l.s))
