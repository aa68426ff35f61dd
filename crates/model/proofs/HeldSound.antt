-- The store that preparing leaves is sound. Assumes nothing.
use Rattle.std.specs.Prelude.{Option, Some, None, Ok}
use mathlib.Core.Path.{◌≡◌, refl, sym, ap, ◌∙◌, subst}
use mathlib.Core.Bool.{Bool, true, false, ◌&&◌, ◌||◌, cond, and-false, or-false, beq}
use mathlib.Core.List.{List, [], ◌∷◌, map}
use Prim.Native.Nat.{ℕ, ◌+◌, ◌≤◌, ◌<◌}
use native.Mathlib.Omega.{arith}
use lib.ListN.{length, get_or, set, length-set}
use lib.Seq.{map-set_same, get_or-set_same, get_or-set_other}
use lib.Dec.{eqb}
use borrow.Author.Tests.{eqb-true, eqb-false}
use Rattle.transaction.specs.declared.PackedRefs.{PackedRefs}
use Rattle.transaction.specs.declared.Edit.{Edit}
use Rattle.model.specs.declared.Lock.TheVariants.{Ours}
use Rattle.model.specs.Basic.{any}
use Rattle.model.specs.Store.{no_row, Store, Entry, Prepared, no_entry, count, entry_at, rows_in, mode_in, is_lock, put_lock, change_at}
use Rattle.model.specs.Read.{value_of}
use Rattle.model.specs.Rows.{name_in, row_at, opens, keeps_lock}
use Rattle.model.specs.Due.{due_lines}
use Rattle.model.specs.Fine.{fine_entry, kept_for, fine_lock, Fine}
use Rattle.model.specs.Prepare.{turns_from, holding, held}
use Rattle.model.specs.Reached.{agrees, Sound}
use Rattle.model.proofs.RowsFine.{RowsFine}
use Rattle.model.proofs.FineEdit.{row_name}
use Rattle.model.proofs.Beneath.{Fewer, alone_is, is_alone, alone_moved, Clear, is_clear, clear_moved}
use Rattle.model.proofs.Alike.{alike_opens}
use Rattle.model.proofs.Places.{any_same}
use Rattle.model.proofs.SameRefs.{unlocked, SameRefs, same_count, same_at, same_opens, same_keeps_lock, same_due_lines}
use Rattle.model.proofs.Turns.{Agreed, Turned, turns_fine}

-- ---- tests

beq_true : (a b : Bool) → beq a b ≡ true → a ≡ b
beq_true true true h = refl
beq_true true false h = sym h
beq_true false true h = h
beq_true false false h = refl

true_beq : (a b : Bool) → a ≡ b → beq a b ≡ true
true_beq true true h = refl
true_beq true false h = sym h
true_beq false true h = h
true_beq false false h = refl

-- ---- holding locks

abbrev ours : List Entry → ℕ → Bool
ours es n = is_lock Ours (get_or es n no_entry).lock

-- name m's lock taken, or not
abbrev pub taken : Bool → ℕ → List Entry → List Entry
taken k m es = cond k (change_at (put_lock Ours) m es) es

pub taken_refs : (k : Bool) (m : ℕ) (es : List Entry) → map unlocked (taken k m es) ≡ map unlocked es
taken_refs true m es = map-set_same unlocked es m (put_lock Ours (get_or es m no_entry)) no_entry refl
taken_refs false m es = refl

taken_length : (k : Bool) (m : ℕ) (es : List Entry) (n : ℕ) → n < length es → n < length (taken k m es)
taken_length true m es n h = rw length-set h
taken_length false m es n h = h

taken_ours : (k : Bool) (m : ℕ) (es : List Entry) (n : ℕ) → n < length es → ours (taken k m es) n ≡ ((eqb m n && k) || ours es n)
taken_ours false m es n h = rw (and-false (eqb m n))
taken_ours true m es n h = go (eqb m n) refl
  where
    e : Entry
    e = put_lock Ours (get_or es m no_entry)

    go : (q : Bool) → eqb m n ≡ q → ours (set es m e) n ≡ ((eqb m n && true) || ours es n)
    go true q =
        let x : m ≡ n = eqb-true m n q in
        let l : m < length es = omega arith in
        rw (q, ← x, get_or-set_same es m e no_entry l)
    go false q =
        let d : m ≡ n → ⊥ = eqb-false m n q in
        rw (q, get_or-set_other es m n e no_entry (λ x. d (sym x)))

or_swap : (a b c : Bool) → (a || (b || c)) ≡ ((b || a) || c)
or_swap true true c = refl
or_swap true false c = refl
or_swap false true c = refl
or_swap false false c = refl

module _ (s : Store) (mode : PackedRefs) where
  -- it changes locks only
  holding_refs : (rows : List Edit) (es : List Entry) → map unlocked (holding s mode rows es) ≡ map unlocked es
  holding_refs [] es = refl
  holding_refs (r ∷ rs) es =
      let k : Bool = keeps_lock s mode r in
      holding_refs rs (taken k (name_in r).0 es) ∙ taken_refs k (name_in r).0 es

  -- a row of name n keeps its lock
  abbrev keeping : List Edit → ℕ → Bool
  keeping rows n = any (λ (r : Edit). eqb (name_in r).0 n && keeps_lock s mode r) rows

  -- a lock is ours after where such a row keeps it, and where it was ours
  holding_ours :
      (rows : List Edit) (es : List Entry) (n : ℕ) → n < length es
      → ours (holding s mode rows es) n ≡ (keeping rows n || ours es n)
  holding_ours [] es n h = refl
  holding_ours (r ∷ rs) es n h =
      let k : Bool = keeps_lock s mode r in
      holding_ours rs (taken k (name_in r).0 es) n (taken_length k (name_in r).0 es n h)
      ∙ rw (taken_ours k (name_in r).0 es n h) (or_swap (keeping rs n) (eqb (name_in r).0 n && k) (ours es n))

-- ---- a store with rows prepared over one without

-- what preparing is to leave of a fine store: its refs and logs, and exactly the locks that the rows keep
record Holds (p : Prepared) (s t : Store) : Type 0 where
  prepared : t.prepared ≡ Some p
  refs : SameRefs t s
  locks : (n : ℕ) → n < count s → is_lock Ours (entry_at t n).lock ≡ keeping s p.mode p.rows n
  packed_lock : is_lock Ours t.packed_lock ≡ opens s p.mode p.rows

unlocked_fine : (n : ℕ) (x : Entry) → fine_entry n (unlocked x) ≡ fine_entry n x
unfolding fine_entry
unlocked_fine n x = refl

module _ (p : Prepared) (s t : Store) (h : Holds p s t) (f : Fine s) where
  counted : count t ≡ count s
  counted = same_count t s h.refs

  opened : opens t (mode_in t.prepared) (rows_in t.prepared) ≡ opens s p.mode p.rows
  opened = same_opens t s h.refs _ _ ∙ ap (λ (x : Option Prepared). opens s (mode_in x) (rows_in x)) h.prepared

  kept : (n : ℕ) → kept_for t n ≡ keeping s p.mode p.rows n
  unfolding kept_for
  kept n =
      any_same _ _ no_row (rows_in t.prepared)
      (λ i g.
      ap (λ (k : Bool). eqb (name_in (row_at (rows_in t.prepared) i)).0 n && k)
      (same_keeps_lock t s h.refs (mode_in t.prepared) (row_at (rows_in t.prepared) i)))
      ∙ ap (λ (x : Option Prepared). keeping s (mode_in x) (rows_in x) n) h.prepared

  holds_lock : (n : ℕ) → n < count s → fine_lock t n ≡ true
  unfolding fine_lock
  holds_lock n k = true_beq _ _ (h.locks n k ∙ sym (kept n))

  fewer : Fewer s t
  fewer = record {
    name = λ n k. same_at t s h.refs (λ (x : Entry). x.name) (λ x. refl) n;
    loose = λ n k. rw (same_at t s h.refs (λ (x : Entry). x.loose) (λ x. refl) n) at k;
  }

  holds_fine : RowsFine (count s) p.rows → Clear s p.mode p.rows → length s.lines + length (due_lines s p.rows) ≤ 1024 → Fine t
  holds_fine g c room = record {
    few = rw counted f.few;
    entries = λ n k. rw (counted, entry n) (f.entries n (rw counted at k));
    apart = λ n k i l. rw (name n, name i) (f.apart n (rw counted at k) i l);
    short = rw h.refs.lines f.short;
    lines = λ i k. rw (counted, h.refs.lines) (f.lines i (rw h.refs.lines at k));
    bounded = rw h.prepared g.bounded;
    rows = rw (h.prepared, counted) g.each;
    distinct = rw h.prepared g.distinct;
    locks = λ n k. holds_lock n (rw counted at k);
    packed_lock = true_beq _ _ (h.packed_lock ∙ sym opened);
    room = rw (same_due_lines t s h.refs (rows_in t.prepared), h.prepared, h.refs.lines) room;
    alone = is_alone t (alone_moved s t fewer (alone_is s f.alone));
    clear = is_clear t (mode_in t.prepared) (rows_in t.prepared) clear;
  }
    where
      clear : Clear t (mode_in t.prepared) (rows_in t.prepared)
      clear = subst (λ (x : Option Prepared). Clear t (mode_in x) (rows_in x)) (sym h.prepared) (clear_moved s t fewer p.mode p.rows (λ i k. row_name (count s) p.rows i (g.each i k)) c)

      entry : (n : ℕ) → fine_entry (count s) (entry_at t n) ≡ fine_entry (count s) (entry_at s n)
      entry = same_at t s h.refs (fine_entry (count s)) (unlocked_fine (count s))

      name : (n : ℕ) → (entry_at t n).name ≡ (entry_at s n).name
      name = same_at t s h.refs (λ (x : Entry). x.name) (λ x. refl)

  holds_agrees :
      ((i : ℕ) → i < length p.rows → Agreed s (opens s p.mode p.rows) (row_at p.rows i))
      → (i : ℕ) → i < length (rows_in t.prepared) → agrees t i
  holds_agrees a i k = rw (opened, h.prepared) (a i (rw h.prepared at k) ∙ sym here)
    where
      n : ℕ
      n = (name_in (row_at p.rows i)).0

      here : value_of (opens s p.mode p.rows) (entry_at t n) ≡ value_of (opens s p.mode p.rows) (entry_at s n)
      here = same_at t s h.refs (value_of (opens s p.mode p.rows)) (λ x. refl) n

-- ---- preparing

-- it leaves the refs and the logs
pub held_refs : (s : Store) (p : Prepared) → SameRefs (held p s) s
unfolding held
held_refs s p = record { refs = holding_refs s p.mode p.rows s.entries; lines = refl; setting = refl }

-- with nothing prepared before

module _ (s : Store) (f : Fine s) (idle : s.prepared ≡ None) where
  -- no lock is ours
  free : (n : ℕ) → n < count s → is_lock Ours (entry_at s n).lock ≡ false
  unfolding fine_lock kept_for
  free n h = beq_true _ _ (f.locks n h) ∙ rw idle

  packed_free : is_lock Ours s.packed_lock ≡ false
  unfolding opens
  packed_free = beq_true _ _ f.packed_lock ∙ rw idle

  held_holds : (p : Prepared) → Holds p s (held p s)
  unfolding held
  held_holds p = record {
    prepared = refl;
    refs = held_refs s p;
    locks = λ n h. holding_ours s p.mode p.rows s.entries n h ∙ rw (free n h) (or-false _);
    packed_lock = packed (opens s p.mode p.rows);
  }
    where
      packed : (o : Bool) → is_lock Ours (cond o Ours s.packed_lock) ≡ o
      packed true = refl
      packed false = packed_free

-- the rows that pass R3 to R5 and whose due lines fit leave a sound store
pub held_sound :
    (s : Store) → Fine s → s.prepared ≡ None
    → (mode : PackedRefs) (split rows : List Edit) → RowsFine (count s) split
    → turns_from s mode (opens s mode split) (length split) 0 split ≡ Ok rows
    → length s.lines + length (due_lines s rows) ≤ 1024
    → Sound (held (record { mode = mode; rows = rows }) s)
held_sound s f idle mode split rows g e room = record {
  fine = holds_fine p s (held p s) h f t.fine t.clear room;
  agree = holds_agrees p s (held p s) h f (rw (alike_opens rows split t.alike s mode) t.agreed);
}
  where
    p : Prepared
    p = record { mode = mode; rows = rows }

    h : Holds p s (held p s)
    h = held_holds s f idle p

    t : Turned s mode (opens s mode split) split rows
    t = turns_fine s f mode (opens s mode split) split rows g e
