-- What is above a name or beneath it: a loose value, by one test for both, and a row that will write one.
use Rattle.std.specs.Prelude.{Bool, ◌&&◌, ◌||◌, cond, List, ℕ}
use Rattle.transaction.specs.declared.PackedRefs.{PackedRefs}
use Rattle.transaction.specs.declared.Edit.{Edit}
use Rattle.model.specs.Basic.{some_below}
use Rattle.model.specs.Store.{Store, count}
use Rattle.model.specs.Rows.{name_in, row_at}
use Rattle.model.specs.Beneath.{is_loose, lies, will_write}

-- the name m has a loose value, and stands above n (up), or beneath it
unfoldable pub facing : Bool → Store → ℕ → ℕ → Bool
facing up s n m = is_loose s m && cond up (lies s n m) (lies s m n)

unfoldable pub some_facing : Bool → Store → ℕ → Bool
some_facing up s n = some_below (count s) (facing up s n)

-- one of the two names lies beneath the other
unfoldable pub nested : Store → ℕ → ℕ → Bool
nested s n m = lies s n m || lies s m n

-- the row at place j will write a loose value, and stands above the name n or beneath it
unfoldable pub meets : Store → PackedRefs → List Edit → ℕ → ℕ → Bool
meets s mode rows n j = will_write s mode (row_at rows j) && nested s n (name_in (row_at rows j)).0
