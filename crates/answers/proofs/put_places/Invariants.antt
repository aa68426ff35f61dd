use mathlib.Core.Path.{◌≡◌}
use Prim.Native.Nat.{◌*◌, ◌≤◌}
use lib.ListN.{length, take}
use Rattle.word.specs.Be.{be}
use Rattle.model.specs.Basic.{collect}
use Rattle.answers.proofs.put_places.Given as goal

-- `put_places` meets its contract: the first i places stand in the first i * 8 bytes. Assumes nothing.
abbrev pub invariant-loop-i : goal.invariant-loop-i
invariant-loop-i l =
    (l.i ≤ 16) × (length l.answer ≡ 128) × (length l.places ≡ 16) × (take (l.i * 8) l.answer ≡ collect (be 8) (take l.i l.places))
