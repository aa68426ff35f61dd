-- Every row shows from W1 on, or from W3 or W4 on: a deletion late, an update early in modes 1 and 2. Assumes nothing.
use mathlib.Core.Path.{◌≡◌, refl}
use mathlib.Core.Bool.{Bool, true, false, true≢false, false≢true}
use mathlib.Core.Logic.{◌⊎◌}
use mathlib.Core.Logic.◌⊎◌.{inl, inr}
use Prim.Native.Nat.{◌≤◌}
use native.Mathlib.Omega.{arith}
use Rattle.transaction.specs.declared.RefLog.TheVariants.{AndReference, Only}
use Rattle.transaction.specs.declared.LogChange.{LogChange}
use Rattle.transaction.specs.declared.PreviousValue.{PreviousValue}
use Rattle.target.specs.declared.Target.{Target}
use Rattle.transaction.specs.declared.Change.{Change}
use Rattle.transaction.specs.declared.Change.TheVariants.{Update, Delete}
use Rattle.transaction.specs.declared.PackedRefs.{PackedRefs}
use Rattle.transaction.specs.declared.PackedRefs.TheVariants.{DeletionsOnly, DeletionsAndNonSymbolicUpdates, DeletionsAndNonSymbolicUpdatesRemoveLooseSourceReference}
use Rattle.transaction.specs.Change.{is_delete, is_only}
use Rattle.transaction.specs.Fields.{packed_refs_number}
use Rattle.model.specs.Store.{Entry}
use Rattle.model.proofs.RowSteps.{direct_if}
use Rattle.model.proofs.Shows.{Agreed, Early, Late, only_early, only_late, update_early, direct_late, delete_late}

-- a deletion is late
pub deletion : (mode : PackedRefs) (o p : Bool) (c : Change) (e : Entry) → Agreed mode o p c e → is_delete c ≡ true → Late mode o p c e
deletion mode o p (Update log expected new) e a h = absurd (false≢true h)
deletion mode o p (Delete expected AndReference) e a h = delete_late mode o p expected e a
deletion mode o p (Delete expected Only) e a h = only_late mode o p (Delete expected Only) e refl

-- a direct row is of mode 3
not_direct : (mode : PackedRefs) (p : Bool) (c : Change) → packed_refs_number mode ≤ 2 → direct_if mode p c ≡ false
not_direct DeletionsOnly p c h = refl
not_direct DeletionsAndNonSymbolicUpdates p c h = refl
not_direct DeletionsAndNonSymbolicUpdatesRemoveLooseSourceReference p c h = absurd (omega arith)

-- a direct update is late, any other and a log-only one early
module _ (mode : PackedRefs) (o p : Bool) (log : LogChange) (expected : PreviousValue) (t : Target) (e : Entry)
    (a : Agreed mode o p (Update log expected t) e) where
  not_direct_early : (only : Bool) → is_only log.mode ≡ only → direct_if mode p (Update log expected t) ≡ false
      → Early mode o p (Update log expected t) e
  not_direct_early true h g = only_early mode o p (Update log expected t) e h
  not_direct_early false h g = update_early mode o p log expected t e a h g

  direct_either : (only : Bool) → is_only log.mode ≡ only → direct_if mode p (Update log expected t) ≡ true
      → Early mode o p (Update log expected t) e ⊎ Late mode o p (Update log expected t) e
  direct_either true h g = inl (only_early mode o p (Update log expected t) e h)
  direct_either false h g = inr (direct_late mode o p log expected t e a h g)

  update_either : (direct : Bool) → direct_if mode p (Update log expected t) ≡ direct
      → Early mode o p (Update log expected t) e ⊎ Late mode o p (Update log expected t) e
  update_either true g = direct_either (is_only log.mode) refl g
  update_either false g = inl (not_direct_early (is_only log.mode) refl g)

-- in modes 1 and 2 an update is early
pub update : (mode : PackedRefs) (o p : Bool) (c : Change) (e : Entry) → Agreed mode o p c e
    → is_delete c ≡ false → packed_refs_number mode ≤ 2 → Early mode o p c e
update mode o p (Update log expected t) e a h g =
    not_direct_early mode o p log expected t e a (is_only log.mode) refl (not_direct mode p (Update log expected t) g)
update mode o p (Delete expected log) e a h g = absurd (true≢false h)

pub row : (mode : PackedRefs) (o p : Bool) (c : Change) (e : Entry) → Agreed mode o p c e → Early mode o p c e ⊎ Late mode o p c e
row mode o p (Update log expected t) e a = update_either mode o p log expected t e a (direct_if mode p (Update log expected t)) refl
row mode o p (Delete expected log) e a = inr (deletion mode o p (Delete expected log) e a refl)
