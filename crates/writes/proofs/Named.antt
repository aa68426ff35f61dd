-- What a good store gives of its rows: their names are registered, and flags that were raised tell of every place. Assumes nothing.
use mathlib.Core.Path.{◌≡◌}
use mathlib.Core.Bool.{Bool}
use mathlib.Core.List.{List}
use Prim.Native.Nat.{ℕ, ◌≤◌, ◌<◌}
use native.Mathlib.Omega.{arith}
use lib.ListN.{length}
use Rattle.word.specs.Flags.{Flags}
use Rattle.transaction.specs.declared.Edit.{Edit}
use Rattle.model.specs.Store.{Store, count}
use Rattle.model.specs.Rows.{name_in}
use Rattle.model.specs.Due.{has_lines}
use Rattle.model.specs.Fine.{Fine}
use Rattle.model.proofs.RowFacts.{held}
use Rattle.rows.specs.Rows.{Named}
use Rattle.rows.specs.Due.{lined}
use Rattle.writes.specs.Next.{rows_of, the_row}
use Rattle.writes.specs.Told.{tells, Told}

pub fine_named : (s : Store) → Fine s → Named s
fine_named s f = record { named = λ i h. held s f i h }

-- of so many rows
pub row_named : (s : Store) (rows i : ℕ) (r : Edit) → Named s → rows ≡ length (rows_of s) → i < rows → r ≡ the_row s i → (name_in r).0 < count s
row_named s rows i r n e l er = rw er (n.named i (rw e at l))

-- flags that were raised just now tell of every row
pub told_first : (flags : List Bool) (s : Store) → Fine s → Flags (lined s) flags → Told flags s (rows_of s) 0
told_first flags s f up = record { line = λ i m g. tells_so i g; log = λ i m g d. tells_so i g }
  where
    tells_so : (i : ℕ) → i < length (rows_of s) → tells flags (the_row s i) ≡ has_lines s (name_in (the_row s i))
    tells_so i g = up.flag (name_in (the_row s i)).0 (omega (arith, held s f i g, f.few))

-- what they tell before a place, they tell before every later one
pub told_later : (flags : List Bool) (s : Store) (rows : List Edit) (j k : ℕ) → j ≤ k → Told flags s rows j → Told flags s rows k
told_later flags s rows j k l t = record { line = λ i m g. t.line i (omega arith) g; log = λ i m g d. t.log i (omega arith) g d }
