-- How a name, an object and a target stand in a record or an answer: numbers. Total on every number.
use Rattle.target.specs.declared.NameNumber.{NameNumber}
use Rattle.target.specs.declared.ObjectNumber.{ObjectNumber}
use Rattle.target.specs.declared.Target.{Target}
use Rattle.std.specs.Prelude.{ℕ, cond, eqb, ltb, Option, Some, None}
use Rattle.target.specs.declared.Target.TheVariants.{Object, Symbolic}
use Rattle.target.specs.declared.Found.{Found}
use Rattle.target.specs.declared.Found.TheVariants as found

-- names are numbered from 0, where so many are registered
abbrev pub name_below : ℕ → ℕ → Option NameNumber
name_below names n = cond (ltb n names) (Some (record { 0 = n })) None

-- 0 is the null id
abbrev pub object_of : ℕ → Option ObjectNumber
object_of n = cond (eqb n 0) None (Some (record { 0 = n }))

-- the kind byte: 0 none, 1 object, 2 symbolic
abbrev pub target_byte : Option Target → ℕ
target_byte None = 0
target_byte (Some (Object o)) = 1
target_byte (Some (Symbolic n)) = 2

-- the number beside it, 0 beside none
abbrev pub target_number : Option Target → ℕ
target_number None = 0
target_number (Some (Object o)) = o.0
target_number (Some (Symbolic n)) = n.0

-- 2026-04: the place where a value was found, in an answer
abbrev pub place_number : Found → ℕ
place_number (found.Loose t) = 1
place_number (found.Packed o) = 2
place_number (found.PackedBehindBroken o) = 3
place_number found.Absent = 4
place_number found.AbsentBehindBroken = 5
