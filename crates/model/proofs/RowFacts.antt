-- What holds of a row in a store that obeys the rules: its name is held, no other row has it, and the row agrees with its entry.
-- Assumes nothing.
use Rattle.std.specs.Prelude.{Option, Some, None}
use Rattle.target.specs.declared.ObjectNumber.{ObjectNumber}
use mathlib.Core.Path.{◌≡◌, refl, sym, ◌∙◌}
use mathlib.Core.Bool.{Bool, true, false, true≢false, false≢true, ◌&&◌, or-true}
use mathlib.Core.List.{List, [], ◌∷◌}
use Prim.Native.Nat.{ℕ, zero, suc, ◌≤◌, ◌<◌}
use native.Mathlib.Omega.{arith}
use lib.ListN.{length, get_or}
use lib.Dec.{ltb}
use borrow.Author.Tests.{ltb-true, ltb-false, eq-eqb, not-true}
use Rattle.transaction.specs.declared.Change.{Change}
use Rattle.transaction.specs.declared.PackedRefs.{PackedRefs}
use Rattle.transaction.specs.Change.{new_value, is_log_only}
use Rattle.model.specs.Basic.{any}
use Rattle.model.specs.Store.{Store, Entry, no_row, no_entry, count, entry_of, name_of, is_id, is_packed, mode_in}
use Rattle.target.specs.Target.{is_object}
use Rattle.model.specs.Rows.{name_in, change_in, row_at, counts, counts_as_update, packs_updates, opens}
use Rattle.model.specs.Fine.{Fine, fine_packed, entry_tests, fine_entry, fine_row}
use Rattle.model.specs.Reached.{Sound}
use Rattle.model.specs.Demand3.{rows}
use Rattle.model.proofs.Rules.{both_true, true_both, every_at}
use Rattle.model.proofs.RowSteps.{packs}
use Rattle.model.proofs.Phases.{Alone}
use Rattle.model.proofs.Shows.{Agreed}

-- one that passes is enough
any_at : {A : Type 0} (p : A → Bool) (xs : List A) (i : ℕ) (d : A) → i < length xs → p (get_or xs i d) ≡ true → any p xs ≡ true
any_at p [] i d h e = absurd (omega arith)
any_at p (x ∷ xs) zero d h e = rw e
any_at p (x ∷ xs) (suc i) d h e = rw (any_at p xs i d (omega arith) e) (or-true (p x))

fine_packed_lem : (n : ℕ) (e : Entry) → fine_entry n e ≡ true → fine_packed e.name e.packed ≡ true
unfolding fine_entry
fine_packed_lem n e h = every_at (entry_tests n e) 2 h

module _ (s : Store) (f : Fine s) where
  -- two rows have two names
  below_apart : (i j : ℕ) → i < length (rows s) → j < i → (name_in (row_at (rows s) i)).0 ≡ (name_in (row_at (rows s) j)).0 → ⊥
  below_apart i j h g e = true≢false (sym (eq-eqb _ _ e) ∙ not-true _ (f.distinct i h j g))

  pub alone : (i : ℕ) → i < length (rows s) → Alone (rows s) i
  alone i h j g d e = go (ltb j i) refl
    where
      go : (t : Bool) → ltb j i ≡ t → ⊥
      go true q = below_apart i j h (ltb-true j i q) (sym e)
      go false q = let k : i ≤ j = ltb-false j i q in below_apart j i g (omega arith) e

  module _ (i : ℕ) (h : i < length (rows s)) where
    -- its name is held
    pub held : (name_in (row_at (rows s) i)).0 < count s
    unfolding fine_row
    held = ltb-true _ _ (both_true (ltb (name_in (row_at (rows s) i)).0 (count s)) _ (f.rows i h)).0

    -- a packed value stands on a packable name alone
    packed_packable : is_packed (entry_of s (name_in (row_at (rows s) i))).packed ≡ true → packs s (row_at (rows s) i) ≡ true
    packed_packable q = go (entry_of s (name_in (row_at (rows s) i))).packed q (fine_packed_lem (count s) _ (f.entries _ held))
      where
        go : (k : Option ObjectNumber) → is_packed k ≡ true → fine_packed (name_of s (name_in (row_at (rows s) i))) k ≡ true
            → packs s (row_at (rows s) i) ≡ true
        go None a b = absurd (false≢true a)
        go (Some o) a b = (both_true (is_id o.0) _ b).1

    -- it counts, so that some row does
    row_counts : is_log_only (change_in (row_at (rows s) i)) ≡ false → packs s (row_at (rows s) i) ≡ true → counts s (row_at (rows s) i) ≡ true
    unfolding counts
    row_counts only p = rw (only, p)

    any_counts : is_log_only (change_in (row_at (rows s) i)) ≡ false → packs s (row_at (rows s) i) ≡ true → any (counts s) (rows s) ≡ true
    any_counts only p = any_at (counts s) (rows s) i no_row h (row_counts only p)

    -- the packed table is opened where the row has a packed value to remove, or an object to set
    to_remove_lem : (mode : PackedRefs) → is_log_only (change_in (row_at (rows s) i)) ≡ false → packs s (row_at (rows s) i) ≡ true
        → is_packed (entry_of s (name_in (row_at (rows s) i))).packed ≡ true → opens s mode (rows s) ≡ true
    unfolding opens
    to_remove_lem mode only p k =
        true_both (any_counts only p)
        (rw (any_at (λ (e : Entry). is_packed e.packed) s.entries (name_in (row_at (rows s) i)).0 no_entry held k)
        (or-true (packs_updates mode && any (counts_as_update s) (rows s))))

    to_set_lem : (mode : PackedRefs) → is_log_only (change_in (row_at (rows s) i)) ≡ false → packs s (row_at (rows s) i) ≡ true
        → packs_updates mode ≡ true → is_object (new_value (change_in (row_at (rows s) i))) ≡ true → opens s mode (rows s) ≡ true
    unfolding opens
    to_set_lem mode only p u k =
        true_both (any_counts only p)
        (rw (u, any_at (counts_as_update s) (rows s) i no_row h (true_both (row_counts only p) k)))

-- P of row i, as it stands in the store
abbrev pub Of : (PackedRefs → Bool → Bool → Change → Entry → Type 0) → Store → ℕ → Type 0
Of P s i =
    P (mode_in s.prepared) (opens s (mode_in s.prepared) (rows s)) (packs s (row_at (rows s) i)) (change_in (row_at (rows s) i))
    (entry_of s (name_in (row_at (rows s) i)))

-- the row agrees with its entry
pub agreed : (s : Store) → Sound s → (i : ℕ) → i < length (rows s) → Of Agreed s i
agreed s sound i h =
    record {
      existing = sound.agree i h;
      packable = packed_packable s sound.fine i h;
      to_remove = to_remove_lem s sound.fine i h (mode_in s.prepared);
      to_set = to_set_lem s sound.fine i h (mode_in s.prepared);
    }
