-- 2026-04: what reading a name comes to, a value and the place where it was found.
use Rattle.std.specs.Prelude.{Option, Some, None}
use Rattle.target.specs.declared.Target.{Target}
use Rattle.target.specs.declared.Target.TheVariants.{Object}
use Rattle.target.specs.declared.Found.{Found}
use Rattle.target.specs.declared.Found.TheVariants as found

-- the value part
abbrev pub value_in : Found → Option Target
value_in (found.Loose t) = Some t
value_in (found.Packed o) = Some (Object o)
value_in (found.PackedBehindBroken o) = Some (Object o)
value_in found.Absent = None
value_in found.AbsentBehindBroken = None
