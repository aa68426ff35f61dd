-- Two stores that differ in locks and in new names alone: rows mean the same in both, and the rules go over from one to the other.
-- Assumes nothing.
use Rattle.std.specs.Prelude.{Option, Some, None}
use mathlib.Core.Path.{◌≡◌, refl, sym, ap, ◌∙◌, subst}
use mathlib.Core.Bool.{Bool, true, false, ◌&&◌, not}
use mathlib.Core.List.{List}
use Prim.Native.Nat.{ℕ, ◌≤◌, ◌<◌, ◌^◌}
use native.Mathlib.Omega.{arith}
use lib.ListN.{length, get_or-eq_default}
use lib.Dec.{eqb, ltb}
use borrow.Author.Tests.{ltb-true, ltb-false, lt-ltb, ne_eqb}
use Rattle.target.specs.declared.Target.{Target}
use Rattle.target.specs.declared.Target.TheVariants.{Object, Symbolic}
use Rattle.transaction.specs.declared.PackedRefs.{PackedRefs}
use Rattle.transaction.specs.declared.Edit.{Edit}
use Rattle.transaction.specs.Change.{new_value, previous_value, message_of}
use Rattle.model.specs.declared.Loose.{Loose}
use Rattle.model.specs.declared.Loose.TheVariants as loose
use Rattle.model.specs.declared.Lock.TheVariants.{Ours}
use Rattle.model.specs.declared.Line.{Line}
use Rattle.model.specs.Basic.{any}
use Rattle.model.specs.Names.{is_name}
use Rattle.model.specs.Store.{Store, Prepared, Entry, no_entry, no_row, count, entry_at, lines_of, rows_in, mode_in, is_packed, is_lock}
use Rattle.model.specs.Rows.{name_in, change_in, row_at, counts, counts_as_update, opens, is_direct, keeps_lock}
use Rattle.model.specs.Due.{Stamp, is_logged, due_line, due_lines, unsigned}
use Rattle.model.specs.Fine.{Fine, fine_target, fine_option, fine_loose, fine_entry, fine_line, fine_row, kept_for, fine_lock}
use Rattle.model.specs.Reached.{Sound, agrees}
use Rattle.model.proofs.Places.{any_same, any_none, any_alike, collect_same}
use Rattle.model.proofs.FineEdit.{row_name}
use Rattle.model.proofs.Base.{Base, both_imply, rest_imply}
use Rattle.model.proofs.Beneath.{alone_is, is_alone, Clear, clear_is, is_clear, Fewer, alone_moved, clear_moved}

-- ---- the stores

-- names that are in both, values, lines and setting are the same
pub record Alike (s t : Store) : Type 0 where
  pub lines : t.lines ≡ s.lines
  pub setting : t.setting ≡ s.setting
  pub name : (n : ℕ) → n < count s → (entry_at t n).name ≡ (entry_at s n).name
  pub loose : (n : ℕ) → (entry_at t n).loose ≡ (entry_at s n).loose
  pub packed : (n : ℕ) → (entry_at t n).packed ≡ (entry_at s n).packed

module _ (s t : Store) (a : Alike s t) where
  -- of a row whose name is registered
  module _ (r : Edit) (h : (name_in r).0 < count s) where
    pub counts_alike : counts t r ≡ counts s r
    unfolding counts
    counts_alike = rw (a.name (name_in r).0 h)

    pub keeps_lock_alike : (mode : PackedRefs) → keeps_lock t mode r ≡ keeps_lock s mode r
    unfolding keeps_lock
    keeps_lock_alike mode = rw (a.name (name_in r).0 h)

    pub is_direct_alike : (mode : PackedRefs) → is_direct t mode r ≡ is_direct s mode r
    unfolding is_direct
    is_direct_alike mode = rw (a.name (name_in r).0 h)

    pub due_line_alike : (stamp : Stamp) → due_line stamp t r ≡ due_line stamp s r
    unfolding due_line is_logged lines_of
    due_line_alike stamp = rw (a.name (name_in r).0 h, a.lines, a.setting)

  -- of rows whose names are registered
  module _ (rows : List Edit) (h : (i : ℕ) → i < length rows → (name_in (row_at rows i)).0 < count s) where
    pub opens_alike : (mode : PackedRefs) → opens t mode rows ≡ opens s mode rows
    unfolding opens
    opens_alike mode = rw (counting, updating, packing)
      where
        counting : any (counts t) rows ≡ any (counts s) rows
        counting = any_same _ _ no_row rows (λ i k. counts_alike (row_at rows i) (h i k))

        updating : any (counts_as_update t) rows ≡ any (counts_as_update s) rows
        updating = any_same _ _ no_row rows (λ i k. rw (counts_alike (row_at rows i) (h i k)))

        packing : any (λ (e : Entry). is_packed e.packed) t.entries ≡ any (λ (e : Entry). is_packed e.packed) s.entries
        packing = any_alike _ no_entry refl t.entries s.entries (λ i. rw (a.packed i))

    pub due_lines_alike : due_lines t rows ≡ due_lines s rows
    due_lines_alike = collect_same _ _ no_row rows (λ i k. due_line_alike (row_at rows i) (h i k) unsigned)

-- ---- the rules ask less where there are more names

target_grows : (n m : ℕ) → n ≤ m → (t : Target) → fine_target n t ≡ true → fine_target m t ≡ true
target_grows n m k (Object o) h = h
target_grows n m k (Symbolic l) h = let q : l.0 < n = ltb-true l.0 n h in lt-ltb l.0 m (omega arith)

option_grows : (n m : ℕ) → n ≤ m → (t : Option Target) → fine_option n t ≡ true → fine_option m t ≡ true
option_grows n m k None h = h
option_grows n m k (Some t) h = target_grows n m k t h

loose_grows : (n m : ℕ) → n ≤ m → (v : Loose) → fine_loose n v ≡ true → fine_loose m v ≡ true
loose_grows n m k loose.None h = h
loose_grows n m k (loose.Target t) h = target_grows n m k t h
loose_grows n m k loose.Broken h = h

module _ (n m : ℕ) (k : n ≤ m) where
  below_grows : (x : ℕ) → ltb x n ≡ true → ltb x m ≡ true
  below_grows x h = let q : x < n = ltb-true x n h in lt-ltb x m (omega arith)

  pub entry_grows : (e : Entry) → fine_entry n e ≡ true → fine_entry m e ≡ true
  unfolding fine_entry
  entry_grows e = rest_imply (is_name e.name) (both_imply (loose_grows n m k e.loose) (λ h. h))

  pub line_grows : (l : Line) → fine_line n l ≡ true → fine_line m l ≡ true
  unfolding fine_line
  line_grows l = both_imply (below_grows l.name.0) (λ h. h)

  pub row_grows : (rows : List Edit) (i : ℕ) → fine_row n rows i ≡ true → fine_row m rows i ≡ true
  unfolding fine_row
  row_grows rows i =
      both_imply (below_grows (name_in (row_at rows i)).0)
      (rest_imply (not (row_at rows i).update.deref)
      (rest_imply (ltb (message_of (change_in (row_at rows i))) (2 ^ 16))
      (both_imply (option_grows n m k (previous_value (change_in (row_at rows i))))
      (both_imply (option_grows n m k (new_value (change_in (row_at rows i)))) (λ h. h)))))

-- ---- the rules, from the one store to the other

-- the same is prepared, and the same locks are ours
pub record Held (s t : Store) : Type 0 where
  pub prepared : t.prepared ≡ s.prepared
  pub grown : count s ≤ count t
  pub lock : (n : ℕ) → is_lock Ours (entry_at t n).lock ≡ is_lock Ours (entry_at s n).lock
  pub packed_lock : is_lock Ours t.packed_lock ≡ is_lock Ours s.packed_lock

-- the row keeps the lock of the name
abbrev kept_by : Store → ℕ → Option Prepared → Edit → Bool
kept_by s n p r = eqb (name_in r).0 n && keeps_lock s (mode_in p) r

-- a name that is not registered has no lock of ours, and no row keeps one for it
locks_all : (s : Store) → Fine s → (n : ℕ) → fine_lock s n ≡ true
unfolding fine_lock kept_for
locks_all s f n = go (ltb n (count s)) refl
  where
    other : count s ≤ n → (i : ℕ) → i < length (rows_in s.prepared) → eqb (name_in (row_at (rows_in s.prepared) i)).0 n ≡ false
    other past i h =
        let here : (name_in (row_at (rows_in s.prepared) i)).0 < count s = row_name _ _ i (f.rows i h) in
        ne_eqb _ n (λ e. omega arith)

    go : (t : Bool) → ltb n (count s) ≡ t → fine_lock s n ≡ true
    go true e = f.locks n (ltb-true n (count s) e)
    go false e =
        let past : count s ≤ n = ltb-false n (count s) e in
        let unkept : kept_for s n ≡ false = any_none (kept_by s n s.prepared) no_row (rows_in s.prepared) (λ i h. rw (other past i h)) in
        rw (get_or-eq_default s.entries no_entry past, unkept)

module _ (s t : Store) (f : Fine s) (a : Alike s t) (o : Held s t) where
  names : (i : ℕ) → i < length (rows_in s.prepared) → (name_in (row_at (rows_in s.prepared) i)).0 < count s
  names i h = row_name _ _ i (f.rows i h)

  kept_for_alike : (n : ℕ) → kept_for t n ≡ kept_for s n
  unfolding kept_for
  kept_for_alike n =
      ap (λ (p : Option Prepared). any (kept_by t n p) (rows_in p)) o.prepared
      ∙ any_same (kept_by t n s.prepared) (kept_by s n s.prepared) no_row (rows_in s.prepared)
      (λ i h. rw (keeps_lock_alike s t a (row_at (rows_in s.prepared) i) (names i h) (mode_in s.prepared)))

  pub opening_alike : opens t (mode_in t.prepared) (rows_in t.prepared) ≡ opens s (mode_in s.prepared) (rows_in s.prepared)
  opening_alike =
      ap (λ (p : Option Prepared). opens t (mode_in p) (rows_in p)) o.prepared
      ∙ opens_alike s t a (rows_in s.prepared) names (mode_in s.prepared)

  due_alike : due_lines t (rows_in t.prepared) ≡ due_lines s (rows_in s.prepared)
  due_alike =
      ap (λ (p : Option Prepared). due_lines t (rows_in p)) o.prepared
      ∙ due_lines_alike s t a (rows_in s.prepared) names

  agrees_alike : (i : ℕ) → agrees s i → agrees t i
  agrees_alike i h =
      let n : ℕ = (name_in (row_at (rows_in t.prepared) i)).0 in
      rw (opening_alike, a.loose n, a.packed n, o.prepared) h

  fewer : Fewer s t
  fewer = record { name = a.name; loose = λ n h. rw (a.loose n) at h }

  clear_alike : Clear t (mode_in t.prepared) (rows_in t.prepared)
  clear_alike =
      subst (λ (x : Option Prepared). Clear t (mode_in x) (rows_in x)) (sym o.prepared)
      (clear_moved s t fewer (mode_in s.prepared) (rows_in s.prepared) names (clear_is s (mode_in s.prepared) (rows_in s.prepared) f.clear))

  pub alike_fine : Base t → Fine t
  unfolding fine_lock
  alike_fine b =
      record {
        few = b.few;
        entries = b.entries;
        apart = b.apart;
        short = b.short;
        lines = b.lines;
        bounded = rw o.prepared f.bounded;
        rows = rw o.prepared (λ i h. row_grows _ _ o.grown _ i (f.rows i h));
        distinct = rw o.prepared f.distinct;
        locks = λ n h. rw (o.lock n, kept_for_alike n) (locks_all s f n);
        packed_lock = rw (o.packed_lock, opening_alike) f.packed_lock;
        room = rw (due_alike, a.lines) f.room;
        alone = is_alone t (alone_moved s t fewer (alone_is s f.alone));
        clear = is_clear t (mode_in t.prepared) (rows_in t.prepared) clear_alike;
      }

pub alike_sound : (s t : Store) → Sound s → Alike s t → Held s t → Base t → Sound t
alike_sound s t f a o b =
    record {
      fine = alike_fine s t f.fine a o b;
      agree = λ i h. agrees_alike s t f.fine a o i (f.agree i (rw o.prepared at h));
    }
