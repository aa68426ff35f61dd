-- What is locked, as the functions below the two calls pass it on.
use Rattle.std.specs.Prelude.{Bool, true, ltb}
use Rattle.model.specs.declared.Lockable.{Lockable}
use Rattle.model.specs.declared.Lockable.TheVariants.{Name, PackedTable}
use Rattle.model.specs.Store.{Store, count}

-- a name is registered, so that its lock can be read and written
abbrev pub is_there : Lockable → Store → Bool
is_there (Name n) s = ltb n.0 (count s)
is_there PackedTable s = true
