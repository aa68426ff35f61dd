-- What is said of a number that no arm of a match names, and of a test in parts that stops at the first part that fails.
-- Assumes nothing.
use Rattle.std.specs.Prelude.{Some, None}
use Prim.Native.Nat.{ℕ, zero, suc}
use mathlib.Core.Path.{◌≡◌, refl, sym, ap, ◌∙◌}
use mathlib.Core.Bool.{Bool, true, false, not, ◌&&◌}
use native.Mathlib.Omega.{arith}
use borrow.Author.Tests.{not-true, not-false}
use lib.Dec.{eqb}
use Rattle.target.specs.declared.ObjectNumber.{ObjectNumber}
use Rattle.target.specs.declared.Target.{Target}
use Rattle.transaction.specs.declared.RefLog.{RefLog}
use Rattle.transaction.specs.declared.RefLog.TheVariants.{AndReference, Only}
use Rattle.transaction.specs.declared.LogChange.{LogChange}
use Rattle.transaction.specs.declared.Change.{Change}
use Rattle.transaction.specs.declared.Change.TheVariants.{Update, Delete}
use Rattle.transaction.specs.declared.RefEdit.{RefEdit}
use Rattle.transaction.specs.declared.Edit.{Edit}
use Rattle.transaction.specs.Change.{row_of, log_change, is_only, is_log_only, is_delete}
use Rattle.transaction.specs.Fields.{ref_log_byte, ref_log_of, previous_of, packed_refs_of, change_byte}

-- past the numbers of an enum
pub no_ref_log : (n : ℕ) → (n ≡ 0 → ⊥) → (n ≡ 1 → ⊥) → None ≡ ref_log_of n
no_ref_log zero a b = absurd (a refl)
no_ref_log (suc zero) a b = absurd (b refl)
no_ref_log (suc (suc n)) a b = refl

pub no_previous_absent : (n : ℕ) → (n ≡ 0 → ⊥) → (n ≡ 1 → ⊥) → (n ≡ 2 → ⊥) → None ≡ previous_of n None
no_previous_absent zero a b c = absurd (a refl)
no_previous_absent (suc zero) a b c = absurd (b refl)
no_previous_absent (suc (suc zero)) a b c = absurd (c refl)
no_previous_absent (suc (suc (suc zero))) a b c = refl
no_previous_absent (suc (suc (suc (suc zero)))) a b c = refl
no_previous_absent (suc (suc (suc (suc (suc n))))) a b c = refl

pub no_previous_present : (n : ℕ) (t : Target) → (n ≡ 3 → ⊥) → (n ≡ 4 → ⊥) → None ≡ previous_of n (Some t)
no_previous_present zero t a b = refl
no_previous_present (suc zero) t a b = refl
no_previous_present (suc (suc zero)) t a b = refl
no_previous_present (suc (suc (suc zero))) t a b = absurd (a refl)
no_previous_present (suc (suc (suc (suc zero)))) t a b = absurd (b refl)
no_previous_present (suc (suc (suc (suc (suc n))))) t a b = refl

pub no_mode : (n : ℕ) → (n ≡ 1 → ⊥) → (n ≡ 2 → ⊥) → (n ≡ 3 → ⊥) → None ≡ packed_refs_of n
no_mode zero a b c = refl
no_mode (suc zero) a b c = absurd (a refl)
no_mode (suc (suc zero)) a b c = absurd (b refl)
no_mode (suc (suc (suc zero))) a b c = absurd (c refl)
no_mode (suc (suc (suc (suc n)))) a b c = refl

-- a test `!r`, where r is p: taken, p is false; left, it is true
pub fails : (r p : Bool) → r ≡ p → not r ≡ true → false ≡ p
fails r p e h = sym (not-true r h) ∙ e

pub holds : (r p : Bool) → r ≡ p → not r ≡ false → p ≡ true
holds r p e h = sym e ∙ not-false r h

-- one part fails, so the whole does
pub stops : (p q : Bool) → false ≡ p → false ≡ (p && q)
stops true q e = absurd (let z : ◌≡◌ {A = ℕ} 0 1 = cc in omega arith)
stops false q e = refl

-- the first part holds, so the whole is what the second is
pub goes_on : (p q r : Bool) → p ≡ true → r ≡ q → r ≡ (p && q)
goes_on true q r h e = e
goes_on false q r h e = absurd (let z : ◌≡◌ {A = ℕ} 0 1 = cc in omega arith)

pub both : (p q : Bool) → p ≡ true → q ≡ true → (p && q) ≡ true
both true q h e = e
both false q h e = h

-- a row with the null id as its leaf-previous
pub row_begins : (e : RefEdit) (o : ObjectNumber) → o.0 ≡ 0 → ◌≡◌ {A = Edit} (record { update = e; parent_index = None; leaf_referent_previous_oid = o }) (row_of e)
row_begins e o h = ap (λ (n : ℕ). row_at n) h
  where
    row_at : ℕ → Edit
    row_at n = record { update = e; parent_index = None; leaf_referent_previous_oid = record { 0 = n } }

-- a field's byte tells its case
pub only_is : (c : Change) (l : LogChange) (b : ℕ) → l ≡ log_change c → b ≡ ref_log_byte l.mode → eqb b 1 ≡ is_log_only c
only_is c l b e f = rw f (ap (λ (x : LogChange). eqb (ref_log_byte x.mode) 1) e ∙ told (log_change c).mode)
  where
    told : (m : RefLog) → eqb (ref_log_byte m) 1 ≡ is_only m
    told AndReference = refl
    told Only = refl

pub delete_is : (c : Change) (b : ℕ) → b ≡ change_byte c → eqb b 2 ≡ is_delete c
delete_is (Update log expected new) b e = rw e
delete_is (Delete expected log) b e = rw e
