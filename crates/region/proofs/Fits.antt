-- What a store must be for its bytes to hold it: each part fits its slot. A store that obeys the rules is such a one. Assumes nothing.
use Rattle.std.specs.Prelude.{Option, Some, None}
use Rattle.target.specs.declared.ObjectNumber.{ObjectNumber}
use mathlib.Core.Path.{◌≡◌, refl}
use mathlib.Core.Bool.{Bool, true, false}
use mathlib.Core.List.{List, [], ◌∷◌}
use Prim.Native.Nat.{ℕ, ◌^◌, ◌≤◌, ◌<◌}
use native.Mathlib.Nat.{le_trans}
use native.Mathlib.Omega.{arith}
use lib.ListN.{length, get_or, get_or-eq_default}
use lib.Dec.{ltb, lit≤}
use borrow.Author.Tests.{ltb-true, ltb-false, not-true}
use Rattle.word.specs.Be.{Bytes}
use Rattle.word.specs.Be.Bytes.{none as no_bytes, more}
use Rattle.word.specs.Text.{FineText}
use Rattle.word.proofs.Tests.{both_true, every_at}
use Rattle.target.specs.declared.NameNumber.{NameNumber}
use Rattle.target.specs.declared.Target.{Target}
use Rattle.target.specs.declared.Target.TheVariants.{Object, Symbolic}
use Rattle.target.specs.Found.{value_in}
use Rattle.transaction.specs.declared.Edit.{Edit}
use Rattle.transaction.specs.Change.{new_value, previous_value}
use Rattle.model.specs.declared.Loose.{Loose}
use Rattle.model.specs.declared.Loose.TheVariants as loose
use Rattle.model.specs.declared.Line.{Line}
use Rattle.model.specs.Names.{is_name}
use Rattle.model.specs.Store.{Store, Entry, no_entry, count, entry_at, entry_of, no_line, rows_in, is_id}
use Rattle.model.specs.Read.{packed_seen, found_in, value_of}
use Rattle.model.specs.Rows.{row_at, name_in, change_in}
use Rattle.model.specs.Fine.{Fine, entry_tests, line_tests, row_tests, fine_target, fine_option, fine_loose, fine_packed, fine_entry, fine_line, fine_parent, fine_row}
use Rattle.model.proofs.Places.{Each}
use Rattle.model.proofs.NameBytes.{NameByte, Named, is_named}
use Rattle.slots.specs.Values.{FitsTarget, FitsLoose, FitsPacked, FitsLine}
use Rattle.slots.specs.Row.{FitsRow, FitsOption, FitsParent}

pub record FitsStore (s : Store) : Type 0 where
  pub names : count s ≤ 256
  pub entry : (i : ℕ) → i < count s → FineText 64 (entry_at s i).name × FitsLoose (entry_at s i).loose × FitsPacked (entry_at s i).packed
  pub lines : length s.lines ≤ 1024
  pub line : (i : ℕ) → i < length s.lines → FitsLine (get_or s.lines i no_line)
  pub rows : length (rows_in s.prepared) ≤ 160
  pub row : (i : ℕ) → i < length (rows_in s.prepared) → FitsRow (row_at (rows_in s.prepared) i)

-- ---- the bytes of a name

name_bytes_lem : (n : List ℕ) → Each NameByte n → Bytes n
name_bytes_lem [] h = no_bytes
name_bytes_lem (b ∷ bs) h =
    let l : b ≤ 122 = h.0.1 in
    let k : b < 256 = omega arith in
    more k (name_bytes_lem bs h.1)

name_fits : (n : List ℕ) → is_name n ≡ true → FineText 64 n
name_fits n e = let h : Named n = is_named n e in record { short = h.short; bytes = name_bytes_lem n h.bytes }

-- ---- values: a link's number is below the count of names

module _ (n : ℕ) (few : n ≤ 256) where
  link_fits : (m : ℕ) → ltb m n ≡ true → m < 2 ^ 16
  link_fits m e = let l : m < n = ltb-true m n e in le_trans (le_trans l few) (lit≤ tt)

  id_fits : (o : ℕ) → is_id o ≡ true → (0 < o) × (o < 2 ^ 64)
  id_fits o e = let b : (ltb 0 o ≡ true) × (ltb o (2 ^ 64) ≡ true) = both_true _ _ e in (ltb-true _ _ b.0, ltb-true _ _ b.1)

  target_fits : (t : Target) → fine_target n t ≡ true → FitsTarget t
  target_fits (Object o) e = id_fits o.0 e
  target_fits (Symbolic m) e = link_fits m.0 e

  option_fits : (t : Option Target) → fine_option n t ≡ true → FitsOption t
  option_fits None e = tt
  option_fits (Some t) e = target_fits t e

  loose_fits : (v : Loose) → fine_loose n v ≡ true → FitsLoose v
  loose_fits loose.None e = tt
  loose_fits (loose.Target t) e = target_fits t e
  loose_fits loose.Broken e = tt

  packed_fits : (name : List ℕ) (v : Option ObjectNumber) → fine_packed name v ≡ true → FitsPacked v
  packed_fits name None e = tt
  packed_fits name (Some o) e = id_fits o.0 (both_true _ _ e).0

  entry_fits : (e : Entry) → fine_entry n e ≡ true → FineText 64 e.name × FitsLoose e.loose × FitsPacked e.packed
  unfolding fine_entry
  entry_fits e h =
      let t : (i : ℕ) → get_or (entry_tests n e) i true ≡ true = λ i. every_at (entry_tests n e) i h in
      (name_fits e.name (t 0), loose_fits e.loose (t 1), packed_fits e.name e.packed (t 2))

  line_fits : (l : Line) → fine_line n l ≡ true → FitsLine l
  unfolding fine_line
  line_fits l h =
      let t : (i : ℕ) → get_or (line_tests n l) i true ≡ true = λ i. every_at (line_tests n l) i h in
      record {
        name = link_fits l.name.0 (t 0);
        previous = ltb-true _ _ (t 1);
        new = (id_fits l.new.0 (t 2)).1;
        committer = ltb-true _ _ (t 4);
        message = ltb-true _ _ (t 5);
      }

  parent_fits : (i : ℕ) (p : Option ℕ) → i < 160 → fine_parent i p ≡ true → FitsParent p
  parent_fits i None h e = tt
  parent_fits i (Some j) h e = let l : j < i = ltb-true j i e in le_trans (le_trans l (let k : i ≤ 160 = omega arith in k)) (lit≤ tt)

  row_fits : (rows : List Edit) (i : ℕ) → i < 160 → fine_row n rows i ≡ true → FitsRow (row_at rows i)
  unfolding fine_row
  row_fits rows i k h =
      let t : (j : ℕ) → get_or (row_tests n rows i) j true ≡ true = λ j. every_at (row_tests n rows i) j h in
      record {
        name = link_fits (name_in (row_at rows i)).0 (t 0);
        deref = not-true _ (t 1);
        message = ltb-true _ _ (t 2);
        was = option_fits (previous_value (change_in (row_at rows i))) (t 3);
        new = option_fits (new_value (change_in (row_at rows i))) (t 4);
        parent = parent_fits i (row_at rows i).parent_index k (t 5);
        leaf = ltb-true _ _ (t 7);
      }

pub fine_fits : (s : Store) → Fine s → FitsStore s
fine_fits s f =
    record {
      names = f.few;
      entry = λ i h. entry_fits (count s) f.few (entry_at s i) (f.entries i h);
      lines = f.short;
      line = λ i h. line_fits (count s) f.few (get_or s.lines i no_line) (f.lines i h);
      rows = f.bounded;
      row = λ i h. row_fits (count s) f.few (rows_in s.prepared) i (let b : length (rows_in s.prepared) ≤ 160 = f.bounded in le_trans h b) (f.rows i h);
    }

-- ---- what a name reads in such a store fits too, also where the name is not registered

seen_fits : (seen : Bool) (p : Option ObjectNumber) → FitsPacked p → FitsPacked (packed_seen seen p)
seen_fits true p f = f
seen_fits false p f = tt

found_fits : (v : Loose) (p : Option ObjectNumber) → FitsLoose v → FitsPacked p → FitsOption (value_in (found_in v p))
found_fits (loose.Target t) p f g = f
found_fits loose.None (Some o) f g = g
found_fits loose.Broken (Some o) f g = g
found_fits loose.None None f g = tt
found_fits loose.Broken None f g = tt

pub reads_fit : (s : Store) → FitsStore s → (seen : Bool) (n : NameNumber) → FitsOption (value_of seen (entry_of s n))
reads_fit s f seen n = go (ltb n.0 (count s)) refl
  where
    fit : (e : Entry) → FitsLoose e.loose → FitsPacked e.packed → FitsOption (value_of seen e)
    fit e v p = found_fits e.loose _ v (seen_fits seen e.packed p)

    go : (b : Bool) → ltb n.0 (count s) ≡ b → FitsOption (value_of seen (entry_of s n))
    go true q = let e = f.entry n.0 (ltb-true n.0 (count s) q) in fit (entry_of s n) e.1 e.2
    go false q =
        let far : count s ≤ n.0 = ltb-false n.0 (count s) q in
        rw (get_or-eq_default s.entries no_entry far) (fit no_entry tt tt)
