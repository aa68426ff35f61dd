-- Targets: what src/target.rs answers of one, and when two are the same.
use Rattle.std.specs.Prelude.{Bool, true, false, eqb, Option, Some, None}
use Rattle.target.specs.declared.NameNumber.{NameNumber}
use Rattle.target.specs.declared.ObjectNumber.{ObjectNumber}
use Rattle.target.specs.declared.Kind.{Kind}
use Rattle.target.specs.declared.Kind.TheVariants as kind
use Rattle.target.specs.declared.Target.{Target}
use Rattle.target.specs.declared.Target.TheVariants.{Object, Symbolic}

-- two names, two objects: the same number
abbrev pub same_name : NameNumber → NameNumber → Bool
same_name a b = eqb a.0 b.0

abbrev pub same_object : ObjectNumber → ObjectNumber → Bool
same_object a b = eqb a.0 b.0

-- two targets: both objects of one number, or both links to one name
abbrev pub same : Target → Target → Bool
same (Object a) (Object b) = same_object a b
same (Object a) (Symbolic b) = false
same (Symbolic a) (Object b) = false
same (Symbolic a) (Symbolic b) = same_name a b

-- what may be missing: both absent, or both present and the same
abbrev pub same_option : Option Target → Option Target → Bool
same_option None None = true
same_option None (Some b) = false
same_option (Some a) None = false
same_option (Some a) (Some b) = same a b

abbrev pub kind_of : Target → Kind
kind_of (Object o) = kind.Object
kind_of (Symbolic n) = kind.Symbolic

abbrev pub try_id : Target → Option ObjectNumber
try_id (Object o) = Some o
try_id (Symbolic n) = None

abbrev pub try_name : Target → Option NameNumber
try_name (Object o) = None
try_name (Symbolic n) = Some n

-- the null id is object 0; a link is never null
abbrev pub is_null : Target → Bool
is_null (Object o) = eqb o.0 0
is_null (Symbolic n) = false

-- what may be missing is there, and is an object, a link
abbrev pub is_object : Option Target → Bool
is_object None = false
is_object (Some (Object o)) = true
is_object (Some (Symbolic n)) = false

abbrev pub is_symbolic : Option Target → Bool
is_symbolic None = false
is_symbolic (Some (Object o)) = false
is_symbolic (Some (Symbolic n)) = true
