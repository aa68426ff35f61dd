-- What the four phases of the ordered writes do to the entry of one name: that of one row, or of none. Assumes nothing.
use mathlib.Core.Path.{◌≡◌, subst}
use mathlib.Core.Bool.{Bool, true, false, ◌&&◌, not, cond}
use mathlib.Core.List.{List, [], ◌∷◌}
use Prim.Native.Nat.{ℕ, ◌<◌}
use lib.ListN.{length}
use Rattle.transaction.specs.declared.PackedRefs.{PackedRefs}
use Rattle.transaction.specs.declared.Edit.{Edit}
use Rattle.model.specs.Basic.{is_empty, collect, when}
use Rattle.model.specs.Store.{Store, Entry, no_row, entry_of}
use Rattle.model.specs.Rows.{name_in, change_in, row_at, opens}
use Rattle.model.specs.Due.{Stamp}
use Rattle.model.specs.Writes.{PackedEdit, packed_edit, packed_edits, w1, w2, w3, w4, ordered_writes}
use Rattle.model.specs.Writes.Write.{write_packed}
use Rattle.model.proofs.Switch.{through, Quiet, Step, quiet_none, quiet_append, quiet_step, quiet_when, quiet_whole, one_step, whole, all_quiet, one_steps}
use Rattle.model.proofs.Touch.{touch, touch_packed}
use Rattle.model.proofs.RowSteps.{packs, loose_set, packed_moved, loose_gone, other_w1, other_w4, other_packed, quiet_w2, own_w1, own_w4, own_packed}

-- one packed write does what its edits do, and an empty one is not made
packed_step : (n : ℕ) (o : Bool) (ps : List PackedEdit) (e : Entry) {y : Entry} → through (touch_packed n) ps e ≡ y
    → Step (touch n) (when (o && not (is_empty ps)) (write_packed ps)) e (cond o y e)
packed_step n true [] e h = subst (λ z. Step (touch n) [] e z) h (quiet_step quiet_none e)
packed_step n true (p ∷ ps) e h = subst (λ z. Step (touch n) (write_packed (p ∷ ps) ∷ []) e z) h (one_step (write_packed (p ∷ ps)) e)
packed_step n false ps e h = quiet_step quiet_none e

-- no other row has the name of row i
abbrev pub Alone : List Edit → ℕ → Type 0
Alone rs i = (j : ℕ) → j < length rs → (j ≡ i → ⊥) → (name_in (row_at rs j)).0 ≡ (name_in (row_at rs i)).0 → ⊥

-- W2 changes no entry
pub phase_2 : (s : Store) (rs : List Edit) (n : ℕ) → Quiet (touch n) (collect (w2 s) rs)
phase_2 s rs n = all_quiet (w2 s) no_row rs (λ j h. quiet_w2 n (row_at rs j) s)

module _ (stamp : Stamp) (s : Store) (mode : PackedRefs) (rs : List Edit) where
  -- a name that no row has
  pub no_phase : (n : ℕ) → ((j : ℕ) → j < length rs → (name_in (row_at rs j)).0 ≡ n → ⊥) → Quiet (touch n) (ordered_writes stamp s mode rs)
  unfolding ordered_writes w3
  no_phase n none =
      quiet_append (all_quiet (w1 stamp s mode) no_row rs (λ j h. other_w1 n (row_at rs j) (none j h) s mode stamp))
      (quiet_append (phase_2 s rs n)
      (quiet_append
      (quiet_when (opens s mode rs && not (is_empty (packed_edits s mode rs))) (write_packed (packed_edits s mode rs)) (quiet_whole edits))
      (all_quiet (w4 s mode) no_row rs (λ j h. other_w4 n (row_at rs j) (none j h) s mode))))
    where
      edits : Quiet (touch_packed n) (packed_edits s mode rs)
      edits = all_quiet (packed_edit s mode) no_row rs (λ j h. other_packed n (row_at rs j) (none j h) s mode)

  -- the name of row i
  module _ (i : ℕ) (inside : i < length rs) (alone : Alone rs i) (e : Entry) where
    pub phase_1 : Step (touch (name_in (row_at rs i)).0) (collect (w1 stamp s mode) rs) e
        (loose_set mode (packs s (row_at rs i)) (change_in (row_at rs i)) e)
    phase_1 =
        one_steps (w1 stamp s mode) no_row rs i inside (λ j h d. other_w1 _ (row_at rs j) (alone j h d) s mode stamp)
        (own_w1 (row_at rs i) s mode stamp e)

    pub phase_3 : Step (touch (name_in (row_at rs i)).0) (w3 s mode rs) e
        (cond (opens s mode rs)
        (packed_moved mode (packs s (row_at rs i)) (change_in (row_at rs i)) (entry_of s (name_in (row_at rs i))).packed e) e)
    unfolding w3
    phase_3 =
        packed_step (name_in (row_at rs i)).0 (opens s mode rs) (packed_edits s mode rs) e
        (whole
        (one_steps (packed_edit s mode) no_row rs i inside (λ j h d. other_packed _ (row_at rs j) (alone j h d) s mode)
        (own_packed (row_at rs i) s mode e)))

    pub phase_4 : Step (touch (name_in (row_at rs i)).0) (collect (w4 s mode) rs) e
        (loose_gone mode (packs s (row_at rs i)) (change_in (row_at rs i)) (entry_of s (name_in (row_at rs i))).loose e)
    phase_4 =
        one_steps (w4 s mode) no_row rs i inside (λ j h d. other_w4 _ (row_at rs j) (alone j h d) s mode)
        (own_w4 (row_at rs i) s mode e)
