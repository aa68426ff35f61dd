-- Which writes of the list are left as they are by a write that is made: what each decision looks at. Assumes nothing.
use Rattle.std.specs.Prelude.{Option}
use mathlib.Core.Path.{◌≡◌, refl, sym, ap, ap₂, ◌∙◌, subst}
use mathlib.Core.Bool.{Bool, true, false, ◌&&◌, ◌||◌, not, cond}
use mathlib.Core.List.{List, [], ◌∷◌, ◌++◌, map, append-nil}
use Prim.Native.Nat.{ℕ, zero, suc, ◌+◌, ◌≤◌, ◌<◌}
use native.Mathlib.Omega.{arith}
use lib.ListN.{length}
use lib.Dec.{ltb, eqb}
use borrow.Author.Tests.{ne_eqb, ltb-true}
use Rattle.target.specs.declared.NameNumber.{NameNumber}
use Rattle.transaction.specs.declared.PackedRefs.{PackedRefs}
use Rattle.transaction.specs.declared.Edit.{Edit}
use Rattle.transaction.specs.Change.{is_delete}
use Rattle.model.specs.declared.Loose.{Loose}
use Rattle.model.specs.declared.Line.{Line}
use Rattle.model.specs.Basic.{any, select, is_empty, when}
use Rattle.model.specs.Store.{Store, Prepared, rows_in, mode_in, Entry, no_row, entry_of, name_of, is_of, is_packed, lines_of, put_loose, change_at, change_entry, with_entries, with_lines}
use Rattle.model.specs.Rows.{name_in, change_in, row_at, counts, counts_as_update, opens, is_direct, keeps_lock}
use Rattle.model.specs.Due.{Stamp, has_lines, is_logged, due_line}
use Rattle.model.specs.Writes.{PackedEdit, apply, apply_packed, packed_edit, w2, w3, w4}
use Rattle.model.specs.Writes.Write.{append_line, remove_log, write_packed}
use Rattle.model.proofs.Base.{changed_keeps, changed_other}
use Rattle.model.proofs.Places.{any_same, collect_same}
use Rattle.model.proofs.KeptCommit.{applied_keeps}
use Rattle.model.proofs.Touch.{log_after}
use Rattle.writes.specs.Next.{rows_of, mode_of, the_row, loose_of, first_by, second_by, first_at, second_at, places, ahead}
use Rattle.writes.specs.Told.{Told}
use Rattle.writes.proofs.Place.{by_place}

-- ---- lists

-- a change that leaves what is tested
any_changed : (p : Entry → Bool) (f : Entry → Entry) → ((e : Entry) → p (f e) ≡ p e) → (n : ℕ) (es : List Entry) → any p (change_at f n es) ≡ any p es
any_changed p f h n [] = refl
any_changed p f h zero (e ∷ es) = ap (λ (b : Bool). b || any p es) (h e)
any_changed p f h (suc n) (e ∷ es) = ap (λ (b : Bool). p e || b) (any_changed p f h n es)

-- ---- lines alone differ

module _ (s : Store) (ls : List Line) where
  pub lines_loose : (mode : PackedRefs) (r : Edit) → loose_of (with_lines s ls) mode r ≡ loose_of s mode r
  unfolding loose_of keeps_lock is_direct
  lines_loose mode r = refl

  pub lines_w3 : (mode : PackedRefs) (rows : List Edit) → w3 (with_lines s ls) mode rows ≡ w3 s mode rows
  unfolding w3 opens packed_edit counts
  lines_w3 mode rows = refl

  pub lines_w4 : (mode : PackedRefs) (r : Edit) → w4 (with_lines s ls) mode r ≡ w4 s mode r
  unfolding w4 is_direct
  lines_w4 mode r = refl

  module _ (r : Edit) (same : has_lines (with_lines s ls) (name_in r) ≡ has_lines s (name_in r)) where
    pub lines_due : (stamp : Stamp) → due_line stamp (with_lines s ls) r ≡ due_line stamp s r
    unfolding due_line is_logged
    lines_due stamp = rw same

    pub lines_w2 : w2 (with_lines s ls) r ≡ w2 s r
    unfolding w2
    lines_w2 = rw same

-- an update has no log to remove, whatever its lines
pub update_w2 : (s : Store) (r : Edit) → is_delete (change_in r) ≡ false → w2 s r ≡ []
unfolding w2
update_w2 s r e = rw e

-- another name's lines
module _ (s : Store) (n m : NameNumber) (other : n.0 ≡ m.0 → ⊥) where
  pub line_other : (l : Line) → l.name.0 ≡ n.0 → has_lines (with_lines s (s.lines ++ (l ∷ []))) m ≡ has_lines s m
  unfolding apply
  line_other l e =
      let q : eqb l.name.0 m.0 ≡ false = ne_eqb l.name.0 m.0 (λ h. other (sym e ∙ h)) in
      ap (λ (ls : List Line). not (is_empty ls)) (log_after (append_line l ∷ []) s m ∙ go (eqb l.name.0 m.0) q)
    where
      go : (b : Bool) → b ≡ false → lines_of s m ++ cond b (l ∷ []) [] ≡ lines_of s m
      go true h = absurd (let z : ◌≡◌ {A = ℕ} 0 1 = cc in omega arith)
      go false h = append-nil (lines_of s m)

  pub log_other : has_lines (with_lines s (select (λ l. not (is_of n l)) s.lines)) m ≡ has_lines s m
  unfolding apply
  log_other =
      ap (λ (ls : List Line). not (is_empty ls))
      (log_after (remove_log n ∷ []) s m ∙ ap (λ (b : Bool). cond b [] (lines_of s m)) (ne_eqb n.0 m.0 other))

-- ---- one loose value differs

module _ (s : Store) (n : ℕ) (v : Loose) where
  put : Store
  put = change_entry (put_loose v) n s

  name_same : (m : NameNumber) → name_of put m ≡ name_of s m
  unfolding put
  name_same m = changed_keeps (λ (e : Entry). e.name) (put_loose v) n m.0 s.entries refl

  packed_same : (m : NameNumber) → (entry_of put m).packed ≡ (entry_of s m).packed
  unfolding put
  packed_same m = changed_keeps (λ (e : Entry). e.packed) (put_loose v) n m.0 s.entries refl

  pub loose_due : (stamp : Stamp) (r : Edit) → due_line stamp (change_entry (put_loose v) n s) r ≡ due_line stamp s r
  unfolding due_line is_logged put lines_of
  loose_due stamp r = rw (name_same (name_in r))

  pub loose_loose : (mode : PackedRefs) (r : Edit) → loose_of (change_entry (put_loose v) n s) mode r ≡ loose_of s mode r
  unfolding loose_of keeps_lock is_direct put
  loose_loose mode r = rw (name_same (name_in r))

  pub loose_w2 : (r : Edit) → w2 (change_entry (put_loose v) n s) r ≡ w2 s r
  unfolding w2 lines_of
  loose_w2 r = refl

  pub loose_lines : (m : NameNumber) → has_lines (change_entry (put_loose v) n s) m ≡ has_lines s m
  unfolding lines_of
  loose_lines m = refl

  counts_same : (r : Edit) → counts put r ≡ counts s r
  unfolding counts
  counts_same r = rw (name_same (name_in r))

  edit_same : (mode : PackedRefs) (r : Edit) → packed_edit put mode r ≡ packed_edit s mode r
  unfolding packed_edit
  edit_same mode r = rw (counts_same r, packed_same (name_in r))

  update_same : (r : Edit) → counts_as_update put r ≡ counts_as_update s r
  update_same r = rw (counts_same r)

  opens_same : (mode : PackedRefs) (rows : List Edit) → opens put mode rows ≡ opens s mode rows
  unfolding opens put
  opens_same mode rows =
      rw (
        any_same (counts put) (counts s) no_row rows (λ i h. counts_same (row_at rows i)),
        any_same (counts_as_update put) (counts_as_update s) no_row rows (λ i h. update_same (row_at rows i)),
        any_changed (λ (e : Entry). is_packed e.packed) (put_loose v) (λ e. refl) n s.entries,
      )

  pub loose_w3 : (mode : PackedRefs) (rows : List Edit) → w3 (change_entry (put_loose v) n s) mode rows ≡ w3 s mode rows
  unfolding w3 put
  loose_w3 mode rows =
      ap₂ (λ (b : Bool) (ps : List PackedEdit). when (b && not (is_empty ps)) (write_packed ps))
      (opens_same mode rows) (collect_same (packed_edit put mode) (packed_edit s mode) no_row rows (λ i h. edit_same mode (row_at rows i)))

  pub loose_w4 : (mode : PackedRefs) (r : Edit) → (n ≡ (name_in r).0 → ⊥) → w4 (change_entry (put_loose v) n s) mode r ≡ w4 s mode r
  unfolding w4 is_direct put
  loose_w4 mode r h =
      rw (name_same (name_in r), changed_other (put_loose v) n (name_in r).0 s.entries (λ e. h (sym e)))

  -- a row that is neither a deletion nor direct has no loose value to remove
  pub still_w4 : (mode : PackedRefs) (r : Edit) → is_delete (change_in r) ≡ false → is_direct s mode r ≡ false
      → w4 (change_entry (put_loose v) n s) mode r ≡ w4 s mode r
  unfolding w4 is_direct put
  still_w4 mode r d e = rw (d, name_same (name_in r), e)

-- ---- packed values differ

pub packed_w4 : (s : Store) (ps : List PackedEdit) (mode : PackedRefs) (r : Edit) → w4 (with_entries s (apply_packed ps s.entries)) mode r ≡ w4 s mode r
unfolding w4 is_direct
packed_w4 s ps mode r =
    rw (
      applied_keeps (λ (e : Entry). e.name) (λ v e. refl) ps s.entries (name_in r).0,
      applied_keeps (λ (e : Entry). e.loose) (λ v e. refl) ps s.entries (name_in r).0,
    )

-- ---- the places from k on are left as they are

pub record Same (stamp : Stamp) (s t : Store) (k : ℕ) : Type 0 where
  pub rest : t.prepared ≡ s.prepared
  pub lined : (i : ℕ) → k ≤ i → i < length (rows_of s) → has_lines t (name_in (the_row s i)) ≡ has_lines s (name_in (the_row s i))
  pub logged : (i : ℕ) → k ≤ length (rows_of s) + i → i < length (rows_of s) → is_delete (change_in (the_row s i)) ≡ true
      → has_lines t (name_in (the_row s i)) ≡ has_lines s (name_in (the_row s i))
  pub due : (i : ℕ) → k ≤ i → i < length (rows_of s) → due_line stamp t (the_row s i) ≡ due_line stamp s (the_row s i)
  pub loose : (i : ℕ) → k ≤ i → i < length (rows_of s) → loose_of t (mode_of s) (the_row s i) ≡ loose_of s (mode_of s) (the_row s i)
  pub two : (i : ℕ) → k ≤ length (rows_of s) + i → i < length (rows_of s) → w2 t (the_row s i) ≡ w2 s (the_row s i)
  pub three : k ≤ length (rows_of s) + length (rows_of s) → w3 t (mode_of s) (rows_of s) ≡ w3 s (mode_of s) (rows_of s)
  pub four : (i : ℕ) → k ≤ length (rows_of s) + length (rows_of s) + 1 + i → i < length (rows_of s)
      → w4 t (mode_of s) (the_row s i) ≡ w4 s (mode_of s) (the_row s i)

module _ (stamp : Stamp) (s t : Store) (k : ℕ) (same : Same stamp s t k) where
  first_same : (j : ℕ) → k ≤ j → j < places s → first_at stamp t j ≡ first_at stamp s j
  unfolding first_at
  first_same j h g =
      ap (λ (p : Option Prepared). first_by stamp t (mode_in p) (rows_in p) j) same.rest
      ∙ by_place ◌≡◌ (length (rows_of s)) j (map append_line (due_line stamp t (the_row s j))) (map append_line (due_line stamp s (the_row s j)))
      (λ i. w2 t (the_row s i)) (λ i. w2 s (the_row s i)) (w3 t (mode_of s) (rows_of s)) (w3 s (mode_of s) (rows_of s))
      (λ i. w4 t (mode_of s) (the_row s i)) (λ i. w4 s (mode_of s) (the_row s i)) g
      (λ l. ap (map append_line) (same.due j h l)) (λ i l e. same.two i (omega arith) l) (λ e. same.three (omega arith)) (λ i l e. same.four i (omega arith) l)

  second_same : (j : ℕ) → k ≤ j → second_at t j ≡ second_at s j
  unfolding second_at
  second_same j h = ap (λ (p : Option Prepared). second_by t (mode_in p) (rows_in p) j) same.rest ∙ go (ltb j (length (rows_of s))) refl
    where
      go : (b : Bool) → ltb j (length (rows_of s)) ≡ b
          → cond b (loose_of t (mode_of s) (the_row s j)) [] ≡ cond b (loose_of s (mode_of s) (the_row s j)) []
      go true e = same.loose j h (ltb-true j (length (rows_of s)) e)
      go false e = refl

  pub ahead_same : (m j : ℕ) → k ≤ j → j + m ≤ places s → ahead stamp t j m ≡ ahead stamp s j m
  unfolding ahead
  ahead_same zero j h g = refl
  ahead_same (suc m) j h g =
      ap₂ ◌++◌ (first_same j h (omega arith))
      (ap₂ ◌++◌ (second_same j h) (ahead_same m (suc j) (omega arith) (omega arith)))

  -- what flags told before, they tell still
  pub told_same : (flags : List Bool) (j : ℕ) → j ≤ k → Told flags s (rows_of s) j → Told flags t (rows_of t) k
  told_same flags j h told =
      subst (λ (p : Option Prepared). Told flags t (rows_in p) k) (sym same.rest)
      (record {
        line = λ i m g. told.line i (omega arith) g ∙ sym (same.lined i m g);
        log = λ i m g d. told.log i (omega arith) g d ∙ sym (same.logged i m g d);
      })
