use Prim.Native.Nat.{◌≤◌, ◌<◌, ◌^◌}
use mathlib.Core.Path.{◌≡◌}
use lib.ListN.{length, drop}
use Rattle.model.specs.PackedText.{digits_from}
use Rattle.texts.proofs.number.Given as goal

-- `number` meets its contract: the digits that are left, put after what was read, make the whole number. Assumes nothing.
abbrev pub invariant-loop-digit : goal.invariant-loop-digit
invariant-loop-digit l =
    (l.digit-index ≤ length l.digits) × (l.acc < 16 ^ l.digit-index) × (digits_from l.acc (drop l.digit-index l.digits) ≡ digits_from 0 l.digits)
