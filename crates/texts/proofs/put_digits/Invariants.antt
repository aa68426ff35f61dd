use Prim.Native.Nat.{◌≤◌}
use mathlib.Core.Path.{◌≡◌}
use lib.ListN.{length, drop}
use mathlib.Core.List.{[]}
use Rattle.model.specs.PackedText.{digits_on}
use Rattle.texts.proofs.put_digits.Given as goal

-- `put_digits` meets its contract: what is left of the number, put before the digits that are written, makes the whole form. Assumes nothing.
abbrev pub invariant-loop-i : goal.invariant-loop-i
invariant-loop-i l = (l.i ≤ length l.s) × (length l.s ≡ length l.initial.s) × (digits_on l.i l.left (drop l.i l.s) ≡ digits_on (length l.initial.s) l.x [])
