-- Names beneath flagged names. Flags are by number; past their end none is up.
use Rattle.std.specs.Prelude.{Bool, false, ◌&&◌, ◌||◌, not, List, ℕ, length, get_or, eqb}
use Rattle.transaction.specs.declared.PackedRefs.{PackedRefs}
use Rattle.transaction.specs.declared.Edit.{Edit}
use Rattle.model.specs.Basic.{some_below}
use Rattle.model.specs.Store.{Store, count, entry_at, rows_in, mode_in}
use Rattle.model.specs.Rows.{name_in, row_at}
use Rattle.model.specs.Beneath.{lies, will_write}

abbrev pub is_up : List Bool → ℕ → Bool
is_up flags n = get_or flags n false

-- some of the first n places passes the test, and has this number
unfoldable pub some_has : (ℕ → ℕ) → (ℕ → Bool) → ℕ → ℕ → Bool
some_has key ok n k = some_below n (λ i. ok i && eqb (key i) k)

-- every row, or those alone that will write a loose value
unfoldable pub chosen : Store → PackedRefs → Bool → Edit → Bool
chosen s mode writing r = not writing || will_write s mode r

-- the name of a chosen row
unfoldable pub chosen_for : Store → Bool → ℕ → Bool
chosen_for s writing n =
    some_has (λ i. (name_in (row_at (rows_in s.prepared) i)).0) (λ i. chosen s (mode_in s.prepared) writing (row_at (rows_in s.prepared) i))
    (length (rows_in s.prepared)) n

-- the length of a flagged name
unfoldable pub size_for : Store → List Bool → ℕ → Bool
size_for s upper l = some_has (λ m. length (entry_at s m).name) (is_up upper) (count s) l

-- a slash stands at a flagged place
unfoldable pub slashed : List ℕ → List Bool → ℕ → Bool
slashed name sizes i = eqb (get_or name i 0) 47 && is_up sizes i

-- so does some slash of the name
unfoldable pub slash_at : List ℕ → List Bool → Bool
slash_at name sizes = some_below (length name) (slashed name sizes)

-- the name n lies beneath the name m, which is flagged
unfoldable pub under_one : Store → List Bool → ℕ → ℕ → Bool
under_one s upper n m = is_up upper m && lies s n m

-- it lies beneath some flagged name
unfoldable pub under : Store → List Bool → ℕ → Bool
under s upper n = some_below (count s) (under_one s upper n)

-- a name that is flagged in the first lies beneath one that is flagged in the second
unfoldable pub flagged_under : Store → List Bool → List Bool → ℕ → Bool
flagged_under s lower upper n = is_up lower n && under s upper n

-- none does
unfoldable pub none_under : Store → List Bool → List Bool → Bool
none_under s lower upper = not (some_below (count s) (flagged_under s lower upper))
