use Prim.Native.Nat.{◌≤◌}
use mathlib.Core.Path.{◌≡◌}
use lib.ListN.{length, drop}
use Rattle.word.specs.Be.{be, be_on}
use Rattle.word.proofs.put.Given as goal

-- `word::put` meets its contract: what is left of the number, put before the bytes that are written, makes the whole form.
-- Assumes nothing.
abbrev pub invariant-loop-i : goal.invariant-loop-i
invariant-loop-i l = (l.i ≤ length l.s) × (length l.s ≡ length l.initial.s) × (be_on l.i l.left (drop l.i l.s) ≡ be (length l.initial.s) l.x)
