-- Names beneath names: number 25, on the values before the transaction. Packed values play no part.
use Rattle.target.specs.declared.Target.{Target}
use Rattle.std.specs.Prelude.{Bool, ◌&&◌, ◌||◌, not, List, ℕ, Option}
use Rattle.transaction.specs.declared.PackedRefs.{PackedRefs}
use Rattle.transaction.specs.declared.Edit.{Edit}
use Rattle.transaction.specs.Change.{is_log_only, is_delete, existing_in}
use Rattle.model.specs.Basic.{some_below}
use Rattle.model.specs.Names.{beneath}
use Rattle.model.specs.Store.{Store, count, entry_at, name_of, is_none}
use Rattle.model.specs.Rows.{name_in, change_in, row_at, keeps, is_direct}

-- the name has a loose value, broken too
abbrev pub is_loose : Store → ℕ → Bool
is_loose s n = not (is_none (entry_at s n).loose)

-- the name of the first number lies beneath that of the second
abbrev pub lies : Store → ℕ → ℕ → Bool
lies s n m = beneath (entry_at s n).name (entry_at s m).name

-- 25 (a): a name above this one has a loose value
unfoldable pub loose_above : Store → ℕ → Bool
loose_above s n = some_below (count s) (λ m. is_loose s m && lies s n m)

-- 25 (b): a name beneath this one has a loose value
unfoldable pub loose_beneath : Store → ℕ → Bool
loose_beneath s n = some_below (count s) (λ m. is_loose s m && lies s m n)

-- 25 (b), (c): the row would write a loose value in W1: an update, not log-only, not direct, that keeps its lock by R4 with the
-- existing value, whatever it expects
unfoldable pub would_write : Store → PackedRefs → Edit → Option Target → Bool
would_write s mode r existing =
    not (is_delete (change_in r))
    && not (is_log_only (change_in r))
    && not (is_direct s mode r)
    && keeps mode (name_of s (name_in r)) (change_in r) existing

-- the same of a row that had its turn: the existing value is read off it
abbrev pub will_write : Store → PackedRefs → Edit → Bool
will_write s mode r = would_write s mode r (existing_in (change_in r))

-- 25 (c): an earlier row that would write a loose value stands above or beneath
unfoldable pub meets_earlier : Store → PackedRefs → List Edit → ℕ → Bool
meets_earlier s mode rows i =
    let n : ℕ = (name_in (row_at rows i)).0 in
    some_below i (λ j. will_write s mode (row_at rows j) && (lies s n (name_in (row_at rows j)).0 || lies s (name_in (row_at rows j)).0 n))

-- 25, of the row at place i with this existing value: (a), whatever the row does; or it would write a loose value, and (b) or (c)
unfoldable pub conflicts : Store → PackedRefs → List Edit → ℕ → Option Target → Bool
conflicts s mode rows i existing =
    let n : ℕ = (name_in (row_at rows i)).0 in
    loose_above s n || (would_write s mode (row_at rows i) existing && (loose_beneath s n || meets_earlier s mode rows i))
