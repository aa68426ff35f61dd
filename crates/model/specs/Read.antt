-- Reading a name, with the packed table seen or not: the value, and the place where it was found.
use Rattle.target.specs.declared.Target.{Target}
use Rattle.target.specs.declared.ObjectNumber.{ObjectNumber}
use Rattle.std.specs.Prelude.{Bool, true, false, Option, Some, None}
use Rattle.target.specs.declared.NameNumber.{NameNumber}
use Rattle.target.specs.declared.Found.{Found}
use Rattle.target.specs.declared.Found.TheVariants as found
use Rattle.target.specs.Found.{value_in}
use Rattle.model.specs.declared.Loose.{Loose}
use Rattle.model.specs.declared.Loose.TheVariants as loose
use Rattle.model.specs.Store.{Entry, Store, entry_of}

-- the packed value, where the packed table is seen
abbrev pub packed_seen : Bool → Option ObjectNumber → Option ObjectNumber
packed_seen true p = p
packed_seen false p = None

-- its loose target; if that is none or broken, its packed value; else absent
abbrev pub found_in : Loose → Option ObjectNumber → Found
found_in (loose.Target t) p = found.Loose t
found_in loose.None (Some o) = found.Packed o
found_in loose.Broken (Some o) = found.PackedBehindBroken o
found_in loose.None None = found.Absent
found_in loose.Broken None = found.AbsentBehindBroken

-- the one reading: read_name's, with the packed table seen, and R3's, where it may be unopened
abbrev pub found_of : Bool → Entry → Found
found_of seen e = found_in e.loose (packed_seen seen e.packed)

abbrev pub value_of : Bool → Entry → Option Target
value_of seen e = value_in (found_of seen e)

-- what a name reads: the value part
unfoldable pub reading : Store → NameNumber → Option Target
reading s n = value_of true (entry_of s n)
