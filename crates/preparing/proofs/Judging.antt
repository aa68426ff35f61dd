-- The rows that are built are judged part by part, each on the rows that the one before it left. Assumes nothing.
use Rattle.std.specs.Prelude.{Option, Some, None, Result, Ok, Err}
use mathlib.Core.Path.{◌≡◌, refl, sym, ap, ap₂, ◌∙◌}
use mathlib.Core.Bool.{Bool, true, false, not, ◌&&◌, and-true}
use mathlib.Core.List.{List, map}
use Prim.Native.Nat.{ℕ, ◌+◌}
use lib.ListN.{length}
use lib.Dec.{ltb, leb}
use borrow.Author.Tests.{leb-true, leb-false, lt-ltb, le-ltb}
use Rattle.transaction.specs.declared.PackedRefs.{PackedRefs}
use Rattle.transaction.specs.declared.RefEdit.{RefEdit}
use Rattle.transaction.specs.declared.Edit.{Edit}
use Rattle.transaction.specs.Change.{row_of}
use Rattle.model.specs.declared.Lock.TheVariants.{Foreign}
use Rattle.model.specs.declared.Refusal.{Refusal}
use Rattle.model.specs.declared.Refusal.TheVariants.{PackedTransactionAcquire, LogFull}
use Rattle.model.specs.Basic.{any}
use Rattle.model.specs.Store.{Store, Prepared, rows_in, mode_in, is_lock, rows_as, with_prepared, with_rows}
use Rattle.model.specs.Rows.{counts, opens}
use Rattle.model.specs.Due.{due_lines}
use Rattle.model.specs.Outcome.{◌>>=◌, ◌>>◌, refuse_if}
use Rattle.model.specs.Fine.{Upward, fine_room}
use Rattle.model.specs.Split.{splits, one_name_one_edit}
use Rattle.model.specs.Prepare.{turns_from}
use Rattle.model.proofs.SameRefs.{SameRefs, same_opens, same_due_lines}
use Rattle.region.specs.Region.{view, Laid, Became}
use Rattle.writers.specs.Taken.{outcome_by, Taken}
use Rattle.writers.proofs.OtherRows.{own_rows, other_rows}
use Rattle.splits.proofs.Rounds.{splits_of, one_name_of}
use Rattle.turns.proofs.Same.{same_turns}
use Rattle.turns.proofs.Upward.{splits_upward}
use Rattle.preparing.specs.Rows.{names_judged, turns_judged, split_judged, judged_rows}

-- ---- no part sees the rows that are in the table

module _ (s : Store) (q : Option Prepared) where
  same_refs : SameRefs (with_prepared s q) s
  same_refs = record { refs = refl; lines = refl; setting = refl }

  counts_of : (rows : List Edit) → any (counts (with_prepared s q)) rows ≡ any (counts s) rows
  unfolding counts
  counts_of rows = refl

  names_of : (rows : List Edit) → names_judged (with_prepared s q) rows ≡ names_judged s rows
  unfolding names_judged
  names_of rows =
      ap₂ (λ (o : Result (Unit {0}) Refusal) (b : Bool). o >> refuse_if (b && is_lock Foreign s.packed_lock) PackedTransactionAcquire) (one_name_of s q rows) (counts_of rows)

  room_of : (rows : List Edit) → length s.lines + length (due_lines (with_prepared s q) rows) ≡ length s.lines + length (due_lines s rows)
  room_of rows = ap (λ l. length s.lines + length l) (same_due_lines (with_prepared s q) s same_refs rows)

  last_of : (o : Result (List Edit) Refusal)
      → (o >>= λ rows. refuse_if (ltb 1024 (length s.lines + length (due_lines (with_prepared s q) rows))) LogFull >> Ok rows)
      ≡ (o >>= λ rows. refuse_if (ltb 1024 (length s.lines + length (due_lines s rows))) LogFull >> Ok rows)
  last_of (Err x) = refl
  last_of (Ok rows) = ap (λ (n : ℕ). refuse_if (ltb 1024 n) LogFull >> Ok rows) (room_of rows)

  module _ (mode : PackedRefs) where
    turns_of : (rows : List Edit) → turns_judged (with_prepared s q) mode rows ≡ turns_judged s mode rows
    unfolding turns_judged
    turns_of rows =
        last_of (turns_from (with_prepared s q) mode (opens (with_prepared s q) mode rows) (length rows) 0 rows)
        ∙ ap (λ (o : Result (List Edit) Refusal). o >>= λ rows. refuse_if (ltb 1024 (length s.lines + length (due_lines s rows))) LogFull >> Ok rows)
        (same_turns s q mode (opens (with_prepared s q) mode rows) (length rows) 0 rows
        ∙ ap (λ (b : Bool). turns_from s mode b (length rows) 0 rows) (same_opens (with_prepared s q) s same_refs mode rows))

    pub split_of : (rows : List Edit) → split_judged (with_prepared s q) mode rows ≡ split_judged s mode rows
    unfolding split_judged
    split_of rows = ap₂ (λ (o : Result (Unit {0}) Refusal) (p : Result (List Edit) Refusal). o >> p) (names_of rows) (turns_of rows)

    onward_of : (o : Result (List Edit) Refusal) → (o >>= split_judged (with_prepared s q) mode) ≡ (o >>= split_judged s mode)
    onward_of (Err x) = refl
    onward_of (Ok rows) = split_of rows

    pub judged_of : (edits : List RefEdit) → judged_rows (with_prepared s q) mode edits ≡ judged_rows s mode edits
    unfolding judged_rows
    judged_of edits =
        onward_of (splits (with_prepared s q) (map row_of edits))
        ∙ ap (λ (o : Result (List Edit) Refusal). o >>= split_judged s mode) (splits_of s q (map row_of edits))

-- ---- 6, then 7

module _ (s : Store) (rows : List Edit) where
  module _ (j : (Result (Unit {0}) Refusal)) (e : outcome_by j tt ≡ one_name_one_edit s rows) where
    pub names_twice : (x : Refusal) → j ≡ Err x → outcome_by (Err x) tt ≡ names_judged s rows
    unfolding names_judged
    names_twice x h =
        let f : Err x ≡ one_name_one_edit s rows = ap (λ (j : (Result (Unit {0}) Refusal)). outcome_by j tt) (sym h) ∙ e in
        rw (← f)

    module _ (h : j ≡ (Ok tt)) (b : Bool) (g : b ≡ (any (counts s) rows && is_lock Foreign s.packed_lock)) where
      once : one_name_one_edit s rows ≡ Ok tt
      once = sym e ∙ ap (λ (j : (Result (Unit {0}) Refusal)). outcome_by j tt) h

      pub names_held_lem : b ≡ true → outcome_by (Err PackedTransactionAcquire) tt ≡ names_judged s rows
      unfolding names_judged
      names_held_lem t = rw (once, sym g ∙ t)

      pub names_free : b ≡ false → outcome_by (Ok tt) tt ≡ names_judged s rows
      unfolding names_judged
      names_free t = rw (once, sym g ∙ t)

-- ---- 8 to 14

past : (n : ℕ) → ltb 1024 n ≡ not (leb n 1024)
past n = go (leb n 1024) refl
  where
    go : (b : Bool) → leb n 1024 ≡ b → ltb 1024 n ≡ not b
    go true e = le-ltb 1024 n (leb-true n 1024 e)
    go false e = lt-ltb 1024 n (leb-false n 1024 e)

module _ (r₀ r₁ : List ℕ) (mode : PackedRefs) (opened : Bool) (j : (Result (Unit {0}) Refusal))
    (em : mode ≡ mode_in (view r₀).prepared)
    (eo : opened ≡ opens (view r₀) (mode_in (view r₀).prepared) (rows_in (view r₀).prepared))
    (t : Taken r₀ r₁ j (turns_from (view r₀) mode opened (length (rows_in (view r₀).prepared)) 0 (rows_in (view r₀).prepared))) where
  abbrev rest : List Edit → Result (List Edit) Refusal
  rest rows = refuse_if (ltb 1024 (length (view r₀).lines + length (due_lines (view r₀) rows))) LogFull >> Ok rows

  whole_is : (k : (Result (Unit {0}) Refusal)) → j ≡ k → turns_judged (view r₀) (mode_in (view r₀).prepared) (rows_in (view r₀).prepared) ≡ (outcome_by k (rows_in (view r₁).prepared) >>= rest)
  unfolding turns_judged
  whole_is k e =
      ap (λ (o : Result (List Edit) Refusal). o >>= rest)
      (ap₂ (λ (m : PackedRefs) (b : Bool). turns_from (view r₀) m b (length (rows_in (view r₀).prepared)) 0 (rows_in (view r₀).prepared)) (sym em) (sym eo)
      ∙ sym t.whole
      ∙ ap (λ (j : (Result (Unit {0}) Refusal)). outcome_by j (rows_in (view r₁).prepared)) e)

  pub turns_refused : (x : Refusal) → j ≡ Err x → Taken r₀ r₁ (Err x) (turns_judged (view r₀) (mode_in (view r₀).prepared) (rows_in (view r₀).prepared))
  turns_refused x e = record {
    laid = t.laid;
    seen = t.seen;
    whole = sym (whole_is (Err x) e);
  }

  module _ (e : j ≡ (Ok tt)) (b : Bool) (eb : b ≡ fine_room (view r₁)) where
    room_is : ltb 1024 (length (view r₀).lines + length (due_lines (view r₀) (rows_in (view r₁).prepared))) ≡ not b
    unfolding fine_room
    room_is =
        past (length (view r₀).lines + length (due_lines (view r₀) (rows_in (view r₁).prepared)))
        ∙ ap not (sym (eb ∙ and-true _
        ∙ ap (λ (s : Store). leb (length s.lines + length (due_lines s (rows_in (view r₁).prepared))) 1024) t.seen
        ∙ ap (λ (n : ℕ). leb n 1024) (room_of (view r₀) (rows_as (rows_in (view r₁).prepared) (view r₀).prepared) (rows_in (view r₁).prepared))))

    pub turns_full : b ≡ false → Taken r₀ r₁ (Err LogFull) (turns_judged (view r₀) (mode_in (view r₀).prepared) (rows_in (view r₀).prepared))
    turns_full n = record {
      laid = t.laid;
      seen = t.seen;
      whole = sym (whole_is (Ok tt) e ∙ ap (λ (b : Bool). refuse_if b LogFull >> Ok (rows_in (view r₁).prepared)) (room_is ∙ ap not n));
    }

    pub turns_room : b ≡ true → Taken r₀ r₁ (Ok tt) (turns_judged (view r₀) (mode_in (view r₀).prepared) (rows_in (view r₀).prepared))
    turns_room n = record {
      laid = t.laid;
      seen = t.seen;
      whole = sym (whole_is (Ok tt) e ∙ ap (λ (b : Bool). refuse_if b LogFull >> Ok (rows_in (view r₁).prepared)) (room_is ∙ ap not n));
    }

-- ---- 6 to 14

module _ (r₀ : List ℕ) (mode : PackedRefs) (rows : List Edit) (j : (Result (Unit {0}) Refusal)) (e : outcome_by j tt ≡ names_judged (view r₀) rows) where
  pub split_named : (x : Refusal) → Laid r₀ → j ≡ Err x → Taken r₀ r₀ (Err x) (split_judged (view r₀) mode rows)
  unfolding split_judged
  split_named x l h = record {
    laid = l;
    seen = own_rows (view r₀);
    whole =
        let f : Err x ≡ names_judged (view r₀) rows = ap (λ (j : (Result (Unit {0}) Refusal)). outcome_by j tt) (sym h) ∙ e in
        rw (← f);
  }

  pub split_turned : (r₁ : List ℕ) (k : (Result (Unit {0}) Refusal)) → j ≡ (Ok tt) → Taken r₀ r₁ k (turns_judged (view r₀) mode rows) → Taken r₀ r₁ k (split_judged (view r₀) mode rows)
  unfolding split_judged
  split_turned r₁ k h t =
      let f : names_judged (view r₀) rows ≡ Ok tt = sym e ∙ ap (λ (j : (Result (Unit {0}) Refusal)). outcome_by j tt) h in
      record { laid = t.laid; seen = t.seen; whole = rw f t.whole }

-- ---- 4 or 5, and the whole

pub split_taken : (r₀ r₁ r₂ : List ℕ) (j : (Result (Unit {0}) Refusal)) (l rows : List Edit) → Became r₁ (with_rows (view r₀) l) → Taken r₁ r₂ j (splits (view r₁) rows)
    → Taken r₀ r₂ j (splits (view r₀) rows)
split_taken r₀ r₁ r₂ j l rows b t = record {
  laid = t.laid;
  seen = t.seen ∙ other_rows (view r₀) (view r₁) l (rows_in (view r₂).prepared) b.seen;
  whole = t.whole ∙ ap (λ (s : Store). splits s rows) b.seen ∙ splits_of (view r₀) (rows_as l (view r₀).prepared) rows;
}

mode_as : (l : List Edit) (q : Option Prepared) → mode_in (rows_as l q) ≡ mode_in q
mode_as l None = refl
mode_as l (Some p) = refl

module _ (r₀ r₁ : List ℕ) (edits : List RefEdit) (j : (Result (Unit {0}) Refusal)) (t : Taken r₀ r₁ j (splits (view r₀) (map row_of edits))) where
  pub rows_refused : (x : Refusal) → j ≡ Err x → Taken r₀ r₁ (Err x) (judged_rows (view r₀) (mode_in (view r₀).prepared) edits)
  unfolding judged_rows
  rows_refused x e = record {
    laid = t.laid;
    seen = t.seen;
    whole =
        let f : Err x ≡ splits (view r₀) (map row_of edits) = ap (λ (j : (Result (Unit {0}) Refusal)). outcome_by j (rows_in (view r₁).prepared)) (sym e) ∙ t.whole in
        rw (← f);
  }

  module _ (e : j ≡ (Ok tt)) where
    split_passed : splits (view r₀) (map row_of edits) ≡ Ok (rows_in (view r₁).prepared)
    split_passed = sym t.whole ∙ ap (λ (j : (Result (Unit {0}) Refusal)). outcome_by j (rows_in (view r₁).prepared)) e

    pub rows_upward : Upward (length (rows_in (view r₁).prepared)) (rows_in (view r₁).prepared)
    rows_upward = splits_upward (view r₀) edits (rows_in (view r₁).prepared) split_passed

    pub rows_judged : (r₂ : List ℕ) (k : (Result (Unit {0}) Refusal)) → Taken r₁ r₂ k (split_judged (view r₁) (mode_in (view r₁).prepared) (rows_in (view r₁).prepared))
        → Taken r₀ r₂ k (judged_rows (view r₀) (mode_in (view r₀).prepared) edits)
    unfolding judged_rows
    rows_judged r₂ k u =
        let l : List Edit = rows_in (view r₁).prepared in
        record {
          laid = u.laid;
          seen = u.seen ∙ other_rows (view r₀) (view r₁) l (rows_in (view r₂).prepared) t.seen;
          whole =
              u.whole
              ∙ ap (λ (s : Store). split_judged s (mode_in s.prepared) l) t.seen
              ∙ ap (λ (m : PackedRefs). split_judged (with_rows (view r₀) l) m l) (mode_as l (view r₀).prepared)
              ∙ split_of (view r₀) (rows_as l (view r₀).prepared) (mode_in (view r₀).prepared) l
              ∙ sym (ap (λ (o : Result (List Edit) Refusal). o >>= split_judged (view r₀) (mode_in (view r₀).prepared)) split_passed);
        }
