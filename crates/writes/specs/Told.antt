-- What flags that were raised before the first write still tell: of which names have lines in the log.
use Rattle.std.specs.Prelude.{◌≡◌, Bool, true, false, List, ℕ, ◌+◌, ◌≤◌, ◌<◌, length, get_or}
use Rattle.transaction.specs.declared.Edit.{Edit}
use Rattle.transaction.specs.Change.{is_delete}
use Rattle.model.specs.Store.{Store}
use Rattle.model.specs.Rows.{name_in, change_in, row_at}
use Rattle.model.specs.Due.{has_lines}

-- the flag of a row's name
abbrev pub tells : List Bool → Edit → Bool
tells flags r = get_or flags (name_in r).0 false

-- Before place k: of each row whose line is still to be decided (W1), and of each deletion whose log is (W2). An update's line may
-- have been appended since, so its flag is not asked again.
pub record Told (flags : List Bool) (s : Store) (rows : List Edit) (k : ℕ) : Type 0 where
  pub line : (i : ℕ) → k ≤ i → i < length rows → tells flags (row_at rows i) ≡ has_lines s (name_in (row_at rows i))
  pub log : (i : ℕ) → k ≤ length rows + i → i < length rows → is_delete (change_in (row_at rows i)) ≡ true
      → tells flags (row_at rows i) ≡ has_lines s (name_in (row_at rows i))
