-- What the rules say of the rows' names, for functions that write to what a row names.
use Rattle.std.specs.Prelude.{◌≡◌, List, ℕ, ◌<◌, length}
use Rattle.transaction.specs.declared.Edit.{Edit}
use Rattle.model.specs.Store.{Store, count, rows_in}
use Rattle.model.specs.Rows.{name_in, row_at}

-- every row's name is registered
pub record Named (s : Store) : Type 0 where
  pub named : (i : ℕ) → i < length (rows_in s.prepared) → (name_in (row_at (rows_in s.prepared) i)).0 < count s

-- no two rows have one name
pub record Apart (rows : List Edit) : Type 0 where
  pub apart : (i j : ℕ) → i < length rows → j < length rows → (i ≡ j → ⊥) → (name_in (row_at rows i)).0 ≡ (name_in (row_at rows j)).0 → ⊥
