-- The values in rows: that the expected targets and the leaf-previous are fine, and that rows alike to fine ones, with such
-- values, are fine. What a name reads is fine too. Assumes nothing.
use Rattle.std.specs.Prelude.{Option, Some, None}
use Rattle.target.specs.declared.ObjectNumber.{ObjectNumber}
use mathlib.Core.Path.{◌≡◌, refl}
use mathlib.Core.Bool.{Bool, true, false}
use mathlib.Core.List.{List}
use Prim.Native.Nat.{ℕ, ◌<◌, ◌^◌}
use native.Mathlib.Omega.{arith}
use native.Mathlib.Decide.{dec_lt}
use lib.ListN.{length, get_or-eq_default}
use lib.Dec.{ltb}
use Rattle.target.specs.Found.{value_in}
use Rattle.transaction.specs.declared.Edit.{Edit}
use Rattle.transaction.specs.Change.{new_value, previous_value, message_of}
use Rattle.model.specs.declared.Loose.{Loose}
use Rattle.model.specs.declared.Loose.TheVariants as loose
use Rattle.model.specs.Store.{Store, Entry, no_row, no_entry, count, entry_of, is_id}
use Rattle.model.specs.Read.{packed_seen, found_in, value_of}
use Rattle.model.specs.Rows.{name_in, change_in, row_at}
use Rattle.model.specs.Fine.{fine_option, fine_loose, fine_packed, entry_tests, fine_entry, fine_row, Fine}
use Rattle.model.specs.Prepare.{existing}
use Rattle.model.proofs.Rules.{both_true, every_at}
use Rattle.model.proofs.FineEdit.{FineEdit, row_edit}
use Rattle.model.proofs.RowsFine.{RowsFine}
use Rattle.model.proofs.Alike.{Alike, new_plain, message_plain, alike_length, alike_at, alike_ancestors}

-- ---- what a name reads, with the packed table seen or not

module _ (n : ℕ) where
  found_fine : (name : List ℕ) (l : Loose) (p : Option ObjectNumber) → fine_loose n l ≡ true → fine_packed name p ≡ true
      → fine_option n (value_in (found_in l p)) ≡ true
  found_fine name (loose.Target t) p f g = f
  found_fine name loose.None (Some o) f g = (both_true (is_id o.0) _ g).0
  found_fine name loose.Broken (Some o) f g = (both_true (is_id o.0) _ g).0
  found_fine name loose.None None f g = refl
  found_fine name loose.Broken None f g = refl

  seen_fine : (name : List ℕ) (seen : Bool) (p : Option ObjectNumber) → fine_packed name p ≡ true → fine_packed name (packed_seen seen p) ≡ true
  seen_fine name true p h = h
  seen_fine name false p h = refl

  no_entry_fine : (seen : Bool) → fine_option n (value_of seen no_entry) ≡ true
  no_entry_fine true = refl
  no_entry_fine false = refl

  pub value_fine : (seen : Bool) (e : Entry) → fine_entry n e ≡ true → fine_option n (value_of seen e) ≡ true
  unfolding fine_entry
  value_fine seen e h =
      found_fine e.name e.loose _ (every_at (entry_tests n e) 1 h) (seen_fine e.name seen e.packed (every_at (entry_tests n e) 2 h))

pub existing_fine : (s : Store) → Fine s → (opened : Bool) (r : Edit) → fine_option (count s) (existing s opened r) ≡ true
existing_fine s f opened r = go (dec_lt (name_in r).0 (count s))
  where
    go : Dec ((name_in r).0 < count s) → fine_option (count s) (existing s opened r) ≡ true
    go (yes h) = value_fine (count s) opened (entry_of s (name_in r)) (f.entries (name_in r).0 h)
    go (no h) =
        let e : entry_of s (name_in r) ≡ no_entry = get_or-eq_default s.entries no_entry (omega arith) in
        rw e (no_entry_fine (count s) opened)

-- ---- the values in rows

pub record Valued (n : ℕ) (r : Edit) : Type 0 where
  pub previous : fine_option n (previous_value (change_in r)) ≡ true
  pub leaf : ltb r.leaf_referent_previous_oid.0 (2 ^ 64) ≡ true

abbrev pub AllValued : ℕ → List Edit → Type 0
AllValued n rows = (i : ℕ) → Valued n (row_at rows i)

row_valued : (n : ℕ) (rows : List Edit) (i : ℕ) → fine_row n rows i ≡ true → Valued n (row_at rows i)
row_valued n rows i h = let f : FineEdit n (row_at rows i) = row_edit n rows i h in record { previous = f.previous; leaf = f.leaf }

-- also past the rows' end, where nothing stands
pub rows_valued : (n : ℕ) (rows : List Edit) → RowsFine n rows → AllValued n rows
rows_valued n rows f i = go (dec_lt i (length rows))
  where
    go : Dec (i < length rows) → Valued n (row_at rows i)
    go (yes h) = row_valued n rows i (f.each i h)
    go (no h) =
        let e : row_at rows i ≡ no_row = get_or-eq_default rows no_row (omega arith) in
        rw e (record { previous = refl; leaf = refl })

-- ---- rows alike to fine ones

module _ (n : ℕ) (rows split : List Edit) (e : Alike rows split) (v : AllValued n rows) (f : RowsFine n split) where
  name_at_lem : (i : ℕ) → name_in (row_at rows i) ≡ name_in (row_at split i)
  name_at_lem = alike_at rows split e name_in (λ r. refl)

  deref_at : (i : ℕ) → (row_at rows i).update.deref ≡ (row_at split i).update.deref
  deref_at = alike_at rows split e (λ (r : Edit). r.update.deref) (λ r. refl)

  message_at : (i : ℕ) → message_of (change_in (row_at rows i)) ≡ message_of (change_in (row_at split i))
  message_at = alike_at rows split e (λ (r : Edit). message_of (change_in r)) (λ r. message_plain (change_in r))

  new_at : (i : ℕ) → new_value (change_in (row_at rows i)) ≡ new_value (change_in (row_at split i))
  new_at = alike_at rows split e (λ (r : Edit). new_value (change_in r)) (λ r. new_plain (change_in r))

  parent_at_lem : (i : ℕ) → (row_at rows i).parent_index ≡ (row_at split i).parent_index
  parent_at_lem = alike_at rows split e (λ (r : Edit). r.parent_index) (λ r. refl)

  -- the tests of values pass in both, and the others test the same
  alike_row : (i : ℕ) → fine_row n split i ≡ true → fine_row n rows i ≡ true
  unfolding fine_row
  alike_row i h =
      let w : Valued n (row_at split i) = rows_valued n split f i in
      rw (name_at_lem i, deref_at i, message_at i, new_at i, parent_at_lem i, alike_ancestors rows split e i, (v i).previous, (v i).leaf)
      (rw (w.previous, w.leaf) at h)

  pub alike_fine : RowsFine n rows
  alike_fine = record {
    bounded = rw (alike_length rows split e) f.bounded;
    each = λ i h. alike_row i (f.each i (rw (alike_length rows split e) at h));
    distinct = λ i h j k. rw (name_at_lem i, name_at_lem j) (f.distinct i (rw (alike_length rows split e) at h) j k);
  }
