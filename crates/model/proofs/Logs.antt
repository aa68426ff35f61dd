-- The log of a deleted name is gone once W1 and W2 are made. Assumes nothing.
use Rattle.std.specs.Prelude.{Option, Some, None}
use Rattle.target.specs.declared.Target.{Target}
use mathlib.Core.Path.{◌≡◌, refl, ◌∙◌}
use mathlib.Core.Bool.{Bool, true, false, false≢true, ◌&&◌, not, cond}
use mathlib.Core.List.{List, [], ◌∷◌, ◌++◌, map, append-nil, append_assoc}
use Prim.Native.Nat.{ℕ, ◌≤◌, ◌<◌}
use lib.ListN.{length, take}
use lib.Dec.{eqb}
use borrow.Author.Tests.{eqb-true, eqb-false, eq-eqb, ne_eqb}
use Rattle.target.specs.declared.NameNumber.{NameNumber}
use Rattle.target.specs.declared.ObjectNumber.{ObjectNumber}
use Rattle.transaction.specs.declared.Change.{Change}
use Rattle.transaction.specs.declared.Change.TheVariants.{Update, Delete}
use Rattle.transaction.specs.declared.PackedRefs.{PackedRefs}
use Rattle.transaction.specs.declared.Edit.{Edit}
use Rattle.transaction.specs.Change.{new_value, is_delete}
use Rattle.model.specs.declared.Line.{Line}
use Rattle.model.specs.Basic.{is_empty, collect, when}
use Rattle.model.specs.Store.{Store, no_row, entry_of, lines_of}
use Rattle.model.specs.Rows.{name_in, change_in, row_at, is_direct, opens}
use Rattle.model.specs.Due.{Stamp, Move, line_by, move_of, has_lines, is_logged, due_line}
use Rattle.model.specs.Writes.{loose_write, writes_loose, packed_edits, w1, w2, w3, w4, ordered_writes}
use Rattle.model.specs.Writes.Write.{append_line, remove_log, write_packed, remove_loose}
use Rattle.model.specs.Demand3.{apply_all}
use Rattle.model.proofs.Switch.{Quiet, Step, quiet_none, quiet_cons, quiet_append, quiet_cond, quiet_when, quiet_step, one_step, step_after, step_done, all_quiet, one_steps}
use Rattle.model.proofs.Touch.{log_by, log_after}
use Rattle.model.proofs.RowSteps.{packs, goes_if}
use Rattle.model.proofs.Shows.{cond_same}
use Rattle.model.proofs.Phases.{Alone}

-- ---- what leaves a log

quiet_loose : (n k : NameNumber) (v : Option Target) → Quiet (log_by n) (loose_write k v)
quiet_loose n k None = quiet_none
quiet_loose n k (Some t) = quiet_cons (λ l. refl) quiet_none

-- lines of another name
quiet_moves : (n : NameNumber) (stamp : Stamp) (r : Edit) → ((name_in r).0 ≡ n.0 → ⊥)
    → (ms : List Move) → Quiet (log_by n) (map append_line (map (line_by stamp r) ms))
quiet_moves n stamp r other [] = quiet_none
quiet_moves n stamp r other (m ∷ ms) =
    quiet_cons (λ l. rw (ne_eqb (name_in r).0 n.0 other) (append-nil l)) (quiet_moves n stamp r other ms)

quiet_due : (n : NameNumber) (stamp : Stamp) (s : Store) (r : Edit) → ((name_in r).0 ≡ n.0 → ⊥)
    → Quiet (log_by n) (map append_line (due_line stamp s r))
unfolding due_line
quiet_due n stamp s r other = go (is_logged s r)
  where
    go : (b : Bool)
        → Quiet (log_by n) (map append_line (cond b (map (line_by stamp r) (move_of (change_in r) r.leaf_referent_previous_oid)) []))
    go true = quiet_moves n stamp r other (move_of (change_in r) r.leaf_referent_previous_oid)
    go false = quiet_none

-- a deletion is due no line
no_move : (c : Change) (leaf : ObjectNumber) → is_delete c ≡ true → move_of c leaf ≡ []
no_move (Update log expected new) leaf h = absurd (false≢true h)
no_move (Delete expected log) leaf h = refl

no_due : (stamp : Stamp) (s : Store) (r : Edit) → is_delete (change_in r) ≡ true → due_line stamp s r ≡ []
unfolding due_line
no_due stamp s r h = rw (no_move (change_in r) r.leaf_referent_previous_oid h) (cond_same (is_logged s r) [])

module _ (n : NameNumber) (s : Store) (mode : PackedRefs) (r : Edit) where
  log_w1 : (stamp : Stamp) → Quiet (log_by n) (map append_line (due_line stamp s r)) → Quiet (log_by n) (w1 stamp s mode r)
  unfolding w1
  log_w1 stamp q = quiet_append q (quiet_cond (writes_loose s mode r) (quiet_loose n (name_in r) (new_value (change_in r))))

  log_w2 : ((name_in r).0 ≡ n.0 → ⊥) → Quiet (log_by n) (w2 s r)
  unfolding w2
  log_w2 other =
      quiet_when (is_delete (change_in r) && has_lines s (name_in r)) (remove_log (name_in r)) (λ l. rw (ne_eqb (name_in r).0 n.0 other))

  log_w4 : Quiet (log_by n) (w4 s mode r)
  unfolding w4 is_direct
  log_w4 = quiet_when (goes_if mode (packs s r) (change_in r) (entry_of s (name_in r)).loose) (remove_loose (name_in r)) (λ l. refl)

log_w3 : (n : NameNumber) (s : Store) (mode : PackedRefs) (rs : List Edit) → Quiet (log_by n) (w3 s mode rs)
unfolding w3
log_w3 n s mode rs =
    quiet_when (opens s mode rs && not (is_empty (packed_edits s mode rs))) (write_packed (packed_edits s mode rs)) (λ l. refl)

-- ---- what ends one

removed : (n : NameNumber) (ls : List Line) → Step (log_by n) (when (not (is_empty ls)) (remove_log n)) ls []
removed n [] = quiet_step quiet_none []
removed n (l ∷ ls) = rw (eq-eqb n.0 n.0 refl) at (one_step {t = log_by n} (remove_log n) (l ∷ ls))

own_w2 : (s : Store) (r : Edit) → is_delete (change_in r) ≡ true → Step (log_by (name_in r)) (w2 s r) (lines_of s (name_in r)) []
unfolding w2
own_w2 s r h = rw h (removed (name_in r) (lines_of s (name_in r)))

-- ---- along the ordered writes

module _ (stamp : Stamp) (s : Store) (mode : PackedRefs) (rs : List Edit) (i : ℕ) (inside : i < length rs) (alone : Alone rs i)
    (deletes : is_delete (change_in (row_at rs i)) ≡ true) where
  -- W1 adds no line of the name
  front_w1 : (j : ℕ) → j < length rs → Quiet (log_by (name_in (row_at rs i))) (w1 stamp s mode (row_at rs j))
  front_w1 j h = log_w1 (name_in (row_at rs i)) s mode (row_at rs j) stamp (go (eqb j i) refl)
    where
      go : (t : Bool) → eqb j i ≡ t → Quiet (log_by (name_in (row_at rs i))) (map append_line (due_line stamp s (row_at rs j)))
      go true q = rw (eqb-true j i q, no_due stamp s (row_at rs i) deletes) quiet_none
      go false q = quiet_due (name_in (row_at rs i)) stamp s (row_at rs j) (alone j h (eqb-false j i q))

  -- and W2 removes its log
  front : Step (log_by (name_in (row_at rs i))) (collect (w1 stamp s mode) rs ++ collect (w2 s) rs) (lines_of s (name_in (row_at rs i))) []
  front =
      step_after (all_quiet (w1 stamp s mode) no_row rs front_w1)
      (one_steps (w2 s) no_row rs i inside
      (λ j h d. log_w2 (name_in (row_at rs i)) s mode (row_at rs j) (alone j h d)) (own_w2 s (row_at rs i) deletes))

  back : Quiet (log_by (name_in (row_at rs i))) (w3 s mode rs ++ collect (w4 s mode) rs)
  back =
      quiet_append (log_w3 (name_in (row_at rs i)) s mode rs)
      (all_quiet (w4 s mode) no_row rs (λ j h. log_w4 (name_in (row_at rs i)) s mode (row_at rs j)))

  pub log_gone : (m : ℕ) → length (collect (w1 stamp s mode) rs ++ collect (w2 s) rs) ≤ m
      → lines_of (apply_all (take m (ordered_writes stamp s mode rs)) s) (name_in (row_at rs i)) ≡ []
  unfolding ordered_writes
  log_gone m g =
      log_after (take m (ordered_writes stamp s mode rs)) s (name_in (row_at rs i))
      ∙ rw (← append_assoc (collect (w1 stamp s mode) rs) (collect (w2 s) rs)) (step_done front back m g)
