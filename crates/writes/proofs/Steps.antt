-- What a place writes, made, leaves every later place as it is. Assumes nothing.
use Rattle.std.specs.Prelude.{Option, Some, None}
use mathlib.Core.Path.{◌≡◌, refl, sym, ap, ◌∙◌, subst}
use mathlib.Core.Bool.{Bool, true, false, ◌&&◌, ◌||◌, not, cond}
use mathlib.Core.List.{List, [], ◌∷◌, map}
use Prim.Native.Nat.{ℕ, suc, ◌+◌, ◌≤◌, ◌<◌}
use native.Mathlib.Omega.{arith}
use lib.ListN.{length}
use lib.Dec.{ltb}
use borrow.Author.Tests.{ltb-true, le-ltb}
use Rattle.target.specs.declared.NameNumber.{NameNumber}
use Rattle.target.specs.declared.ObjectNumber.{ObjectNumber}
use Rattle.target.specs.declared.Target.{Target}
use Rattle.transaction.specs.declared.Change.{Change}
use Rattle.transaction.specs.declared.Change.TheVariants.{Update, Delete}
use Rattle.transaction.specs.declared.Edit.{Edit}
use Rattle.transaction.specs.Change.{new_value, is_log_only, is_delete}
use Rattle.model.specs.Basic.{is_empty, when}
use Rattle.model.specs.declared.Loose.TheVariants as loose
use Rattle.model.specs.declared.Line.{Line}
use Rattle.model.specs.Store.{Store, Prepared, rows_in, entry_of, is_none, put_loose, change_entry, with_entries, with_lines}
use Rattle.model.specs.Rows.{name_in, change_in, opens, is_direct, keeps_lock}
use Rattle.model.specs.Due.{Stamp, Move, move_of, has_lines, is_logged, line_by, due_line}
use Rattle.model.specs.Writes.{Write, PackedEdit, apply, apply_packed, loose_write, packed_edits, w2, w3, w4}
use Rattle.model.specs.Writes.Write.{append_line, write_loose, remove_log, write_packed, remove_loose}
use Rattle.writes.specs.Next.{rows_of, mode_of, the_row, loose_of, first_at, second_at, places, ahead}
use Rattle.writes.specs.Told.{Told}
use Rattle.writes.proofs.Stable.{Same, ahead_same, told_same}
use Rattle.rows.specs.Rows.{Apart}
use Rattle.writes.proofs.Place.{first_by_lem}
use Rattle.writes.proofs.Keeps.{keeps_line, keeps_loose, keeps_log, keeps_packed, keeps_gone}

-- ---- which write it is

abbrev pub head_or : Write → List Write → Write
head_or d [] = d
head_or d (w ∷ ws) = w

pub no_write : {P : Type 0} (w : Write) → [] ≡ w ∷ [] → P
no_write w e = absurd (let z : ◌≡◌ {A = ℕ} 0 1 = cc in omega arith)

pub when_shape : (b : Bool) (x w : Write) → when b x ≡ w ∷ [] → x ≡ w
when_shape true x w e = ap (head_or w) e
when_shape false x w e = no_write w e

pub line_shape : (b : Bool) (ms : List Move) (stamp : Stamp) (r : Edit) (w : Write) → map append_line (cond b (map (line_by stamp r) ms) []) ≡ w ∷ []
    → (m : Move) × (append_line (line_by stamp r m) ≡ w) × (is_empty ms ≡ false)
line_shape true [] stamp r w e = no_write w e
line_shape true (m ∷ ms) stamp r w e = (m, ap (head_or w) e, refl)
line_shape false ms stamp r w e = no_write w e

moving_updates : (c : Change) (leaf : ObjectNumber) → is_empty (move_of c leaf) ≡ false → is_delete c ≡ false
moving_updates (Update log expected new) leaf e = refl
moving_updates (Delete expected log) leaf e = absurd (let z : ◌≡◌ {A = ℕ} 0 1 = cc in omega arith)

pub loose_shape : (k o d : Bool) (n : NameNumber) (v : Option Target) (w : Write) → cond (k && not o && not d) (loose_write n v) [] ≡ w ∷ []
    → (t : Target) × (write_loose n t ≡ w) × (d ≡ false) × (v ≡ Some t)
loose_shape true false false n None w e = no_write w e
loose_shape true false false n (Some t) w e = (t, ap (head_or w) e, refl, refl)
loose_shape true false true n v w e = no_write w e
loose_shape true true d n v w e = no_write w e
loose_shape false o d n v w e = no_write w e

valued_updates : (c : Change) (t : Target) → new_value c ≡ Some t → is_delete c ≡ false
valued_updates (Update log expected new) t e = refl
valued_updates (Delete expected log) t e = absurd (let z : ◌≡◌ {A = ℕ} 0 1 = cc in omega arith)

-- past W1 a place has no second write, whatever the store
second_none : (s : Store) (k : ℕ) → length (rows_of s) ≤ k → second_at s k ≡ []
unfolding second_at
second_none s k h = rw (le-ltb k (length (rows_of s)) h)

module _ (stamp : Stamp) (s : Store) (a : Apart (rows_of s)) (k m : ℕ) (room : suc k + m ≤ places s) where
  -- what flags tell of the later places
  abbrev Tells : ℕ → Store → Type 0
  Tells j t = (flags : List Bool) → Told flags s (rows_of s) j → Told flags t (rows_of t) (suc k)

  -- the rest of the list, as it was
  abbrev Stays : Write → Type 0
  Stays w = (second_at (apply w s) k ≡ second_at s k) × (ahead stamp (apply w s) (suc k) m ≡ ahead stamp s (suc k) m) × Tells k (apply w s)

  all_same : (t : Store) → second_at t k ≡ second_at s k → Same stamp s t (suc k)
      → (second_at t k ≡ second_at s k) × (ahead stamp t (suc k) m ≡ ahead stamp s (suc k) m) × Tells k t
  all_same t e same = (e, ahead_same stamp s t (suc k) same m (suc k) (omega arith) room, λ flags. told_same stamp s t (suc k) same flags k (omega arith))

  second_lines : (ls : List Line) → second_at (with_lines s ls) k ≡ second_at s k
  unfolding second_at loose_of keeps_lock is_direct
  second_lines ls = refl

  second_late : (t : Store) → t.prepared ≡ s.prepared → length (rows_of s) ≤ k → second_at t k ≡ second_at s k
  second_late t e h =
      second_none t k (subst (λ (p : Option Prepared). length (rows_in p) ≤ k) (sym e) h) ∙ sym (second_none s k h)

  made_line : (v : Move) → k < length (rows_of s) → is_delete (change_in (the_row s k)) ≡ false → Stays (append_line (line_by stamp (the_row s k) v))
  unfolding apply
  made_line v h d = all_same _ (second_lines _) (keeps_line stamp s a k (line_by stamp (the_row s k) v) h refl d)

  stays_line : (w : Write) → k < length (rows_of s) → map append_line (due_line stamp s (the_row s k)) ≡ w ∷ [] → Stays w
  unfolding due_line
  stays_line w h e =
      let sh = line_shape (is_logged s (the_row s k)) (move_of (change_in (the_row s k)) (the_row s k).leaf_referent_previous_oid) stamp (the_row s k) w e in
      subst Stays sh.1 (made_line sh.0 h (moving_updates (change_in (the_row s k)) _ sh.2))

  made_log : (j : ℕ) → j < length (rows_of s) → k ≡ length (rows_of s) + j → Stays (remove_log (name_in (the_row s j)))
  unfolding apply
  made_log j h e = all_same _ (second_lines _) (keeps_log stamp s a k j h e)

  stays_log : (w : Write) (j : ℕ) → j < length (rows_of s) → k ≡ length (rows_of s) + j → w2 s (the_row s j) ≡ w ∷ [] → Stays w
  unfolding w2
  stays_log w j h q e = subst Stays (when_shape (is_delete (change_in (the_row s j)) && has_lines s (name_in (the_row s j))) (remove_log (name_in (the_row s j))) w e) (made_log j h q)

  made_packed : (ps : List PackedEdit) → k ≡ length (rows_of s) + length (rows_of s) → Stays (write_packed ps)
  unfolding apply
  made_packed ps e = all_same _ (second_late (with_entries s (apply_packed ps s.entries)) refl (omega arith)) (keeps_packed stamp s a k ps e)

  stays_packed : (w : Write) → k ≡ length (rows_of s) + length (rows_of s) → w3 s (mode_of s) (rows_of s) ≡ w ∷ [] → Stays w
  unfolding w3
  stays_packed w q e = subst Stays (when_shape (opens s (mode_of s) (rows_of s) && not (is_empty (packed_edits s (mode_of s) (rows_of s)))) (write_packed (packed_edits s (mode_of s) (rows_of s))) w e) (made_packed (packed_edits s (mode_of s) (rows_of s)) q)

  made_gone : (j : ℕ) → j < length (rows_of s) → k ≡ length (rows_of s) + length (rows_of s) + 1 + j → Stays (remove_loose (name_in (the_row s j)))
  unfolding apply
  made_gone j h e =
      all_same _ (second_late (change_entry (put_loose loose.None) (name_in (the_row s j)).0 s) refl (omega arith)) (keeps_gone stamp s a k loose.None j h e)

  stays_gone : (w : Write) (j : ℕ) → j < length (rows_of s) → k ≡ length (rows_of s) + length (rows_of s) + 1 + j → w4 s (mode_of s) (the_row s j) ≡ w ∷ [] → Stays w
  unfolding w4
  stays_gone w j h q e = subst Stays (when_shape ((is_delete (change_in (the_row s j)) || is_direct s (mode_of s) (the_row s j)) && not (is_log_only (change_in (the_row s j))) && not (is_none (entry_of s (name_in (the_row s j))).loose)) (remove_loose (name_in (the_row s j))) w e) (made_gone j h q)

  -- whatever the place writes first
  pub first_stays : (w : Write) → first_at stamp s k ≡ w ∷ [] → Stays w
  first_stays w =
      first_by_lem stamp s k (λ us. us ≡ w ∷ [] → Stays w) (omega arith)
      (λ h. stays_line w h) (λ j h q. stays_log w j h q) (λ q. stays_packed w q) (λ j h q. stays_gone w j h q)

  -- the places behind this one, as they were
  abbrev Left : Write → Type 0
  Left w = (ahead stamp (apply w s) (suc k) m ≡ ahead stamp s (suc k) m) × Tells (suc k) (apply w s)

  made_loose : (t : Target) → k < length (rows_of s) → is_delete (change_in (the_row s k)) ≡ false → is_direct s (mode_of s) (the_row s k) ≡ false
      → Left (write_loose (name_in (the_row s k)) t)
  unfolding apply
  made_loose t h d f =
      let same = keeps_loose stamp s a k (loose.Target t) h d f in
      (ahead_same stamp s _ (suc k) same m (suc k) (omega arith) room, λ flags. told_same stamp s _ (suc k) same flags (suc k) (omega arith))

  -- and whatever it writes second
  pub second_stays : (w : Write) → second_at s k ≡ w ∷ [] → Left w
  unfolding second_at loose_of
  second_stays w e = go (ltb k (length (rows_of s))) refl e
    where
      go : (b : Bool) → ltb k (length (rows_of s)) ≡ b
          → cond b (cond (keeps_lock s (mode_of s) (the_row s k) && not (is_log_only (change_in (the_row s k))) && not (is_direct s (mode_of s) (the_row s k)))
          (loose_write (name_in (the_row s k)) (new_value (change_in (the_row s k)))) []) []
          ≡ w ∷ [] → Left w
      go true p h =
          let sh = loose_shape (keeps_lock s (mode_of s) (the_row s k)) (is_log_only (change_in (the_row s k))) (is_direct s (mode_of s) (the_row s k))
          (name_in (the_row s k)) (new_value (change_in (the_row s k))) w h in
          subst Left sh.1 (made_loose sh.0 (ltb-true k (length (rows_of s)) p) (valued_updates (change_in (the_row s k)) sh.0 sh.3) sh.2)
      go false p h = no_write w h
