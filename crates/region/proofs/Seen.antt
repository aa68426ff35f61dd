-- What is seen in a region, part by part: its counts, its small fields, and what stands at a name, a line and a row. Assumes nothing.
use Rattle.std.specs.Prelude.{unwrap_or}
use mathlib.Core.Path.{◌≡◌, refl, ap, ◌∙◌}
use mathlib.Core.Bool.{Bool, true, false, cond}
use mathlib.Core.List.{List, [], ◌∷◌}
use Prim.Native.Nat.{ℕ, zero, suc, ◌≤◌, ◌<◌}
use native.Mathlib.Omega.{arith}
use lib.ListN.{length, get_or}
use lib.Dec.{eqb}
use Rattle.word.specs.Be.{cut, val}
use Rattle.word.specs.Table.{tabulate}
use Rattle.word.proofs.Table.{length_tabulate, get_d_tabulate}
use Rattle.transaction.specs.declared.Edit.{Edit}
use Rattle.transaction.specs.declared.PackedRefs.TheVariants.{DeletionsOnly}
use Rattle.transaction.specs.Fields.{packed_refs_of}
use Rattle.model.specs.declared.Lock.TheVariants.{Free}
use Rattle.model.specs.declared.WriteReflog.TheVariants.{Disable}
use Rattle.model.specs.Store.{no_entry, no_line, no_row, count, entry_at, rows_in, mode_in, lock_byte}
use Rattle.model.specs.Rows as model
use Rattle.model.specs.Load.{setting_of}
use Rattle.model.specs.Store.{lock_from}
use Rattle.region.specs.Layout.{setting_at, packed_lock_at}
use Rattle.region.specs.Region.{mode_byte, name_count, line_count, mode_number, row_count, entry_seen, line_seen, row_seen, prepared_from, view}
use Rattle.model.specs.Load.{setting_byte}
use Rattle.region.proofs.Parts.{Parts}

-- ---- the small fields, of numbers that have a meaning

-- what holds of 0, 1 and 2 holds of a number up to 2
up_to_two : (P : ℕ → Type 0) → P 0 → P 1 → P 2 → (x : ℕ) → x ≤ 2 → P x
up_to_two P a b c zero h = a
up_to_two P a b c (suc zero) h = b
up_to_two P a b c (suc (suc zero)) h = c
up_to_two P a b c (suc (suc (suc n))) h = absurd (omega arith)

setting_forth : (x : ℕ) → x ≤ 2 → setting_byte (unwrap_or (setting_of x) Disable) ≡ x
setting_forth = up_to_two (λ x. setting_byte (unwrap_or (setting_of x) Disable) ≡ x) refl refl refl

lock_forth : (x : ℕ) → x ≤ 2 → lock_byte (unwrap_or (lock_from x) Free) ≡ x
lock_forth = up_to_two (λ x. lock_byte (unwrap_or (lock_from x) Free) ≡ x) refl refl refl

mode_forth : (m : ℕ) (rows : List Edit) → m ≤ 3 → mode_byte (prepared_from m rows) ≡ m
mode_forth zero rows h = refl
mode_forth (suc zero) rows h = refl
mode_forth (suc (suc zero)) rows h = refl
mode_forth (suc (suc (suc zero))) rows h = refl
mode_forth (suc (suc (suc (suc n)))) rows h = absurd (omega arith)

-- without a mode there is no row
rows_forth : (m : ℕ) (rows : List Edit) → length rows ≤ cond (eqb m 0) 0 160 → rows_in (prepared_from m rows) ≡ rows
rows_forth zero [] h = refl
rows_forth zero (x ∷ xs) h = absurd (omega arith)
rows_forth (suc m) rows h = refl

mode_read : (m : ℕ) (rows : List Edit) → mode_in (prepared_from m rows) ≡ unwrap_or ((packed_refs_of m)) DeletionsOnly
mode_read zero rows = refl
mode_read (suc m) rows = refl

cond_room : (t : Bool) (n : ℕ) → n ≤ cond t 0 160 → n ≤ 160
cond_room true n h = let k : n ≤ 0 = h in omega arith
cond_room false n h = h

-- ---- any region

module _ (r : List ℕ) where
  pub count_view : count (view r) ≡ name_count r
  unfolding view
  count_view = length_tabulate (name_count r) (entry_seen r)

  pub lines_view : length (view r).lines ≡ line_count r
  unfolding view
  lines_view = length_tabulate (line_count r) (line_seen r)

  pub setting_view : (view r).setting ≡ unwrap_or (setting_of (val (cut setting_at 1 r))) Disable
  unfolding view
  setting_view = refl

  pub packed_lock_view : (view r).packed_lock ≡ unwrap_or (lock_from (val (cut packed_lock_at 1 r))) Free
  unfolding view
  packed_lock_view = refl

  -- the mode of what is prepared
  pub mode_in_view : mode_in (view r).prepared ≡ unwrap_or ((packed_refs_of (mode_number r))) DeletionsOnly
  unfolding view
  mode_in_view = mode_read (mode_number r) (tabulate (row_count r) (row_seen r))

  pub entry_at_lem : (n : ℕ) → n < name_count r → entry_at (view r) n ≡ entry_seen r n
  unfolding view
  entry_at_lem n h = get_d_tabulate (name_count r) (entry_seen r) n no_entry h

  pub line_at : (i : ℕ) → i < line_count r → get_or (view r).lines i no_line ≡ line_seen r i
  unfolding view
  line_at i h = get_d_tabulate (line_count r) (line_seen r) i no_line h

-- ---- one that is laid out so

module _ (r : List ℕ) (p : Parts r) where
  pub setting_byte_lem : setting_byte (view r).setting ≡ val (cut setting_at 1 r)
  unfolding view
  setting_byte_lem = setting_forth (val (cut setting_at 1 r)) p.setting

  pub packed_lock_byte : lock_byte (view r).packed_lock ≡ val (cut packed_lock_at 1 r)
  unfolding view
  packed_lock_byte = lock_forth (val (cut packed_lock_at 1 r)) p.packed_lock

  pub mode_byte_lem : mode_byte (view r).prepared ≡ mode_number r
  unfolding view
  mode_byte_lem = mode_forth (mode_number r) (tabulate (row_count r) (row_seen r)) p.mode

  pub rows_list : rows_in (view r).prepared ≡ tabulate (row_count r) (row_seen r)
  unfolding view
  rows_list = rows_forth (mode_number r) (tabulate (row_count r) (row_seen r)) (rw length_tabulate p.rows)

  pub few_rows : row_count r ≤ 160
  few_rows = cond_room (eqb (mode_number r) 0) (row_count r) p.rows

  pub rows_count : length (rows_in (view r).prepared) ≡ row_count r
  rows_count = ap length rows_list ∙ length_tabulate (row_count r) (row_seen r)

  pub row_at_lem : (i : ℕ) → i < row_count r → model.row_at (rows_in (view r).prepared) i ≡ row_seen r i
  row_at_lem i h = ap (λ (l : List Edit). model.row_at l i) rows_list ∙ get_d_tabulate (row_count r) (row_seen r) i no_row h
