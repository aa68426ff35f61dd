-- The tests for equality mean equality: `..-true`, that the test holds of equals only, and `..-refl`, that it holds of each with itself.
-- Assumes nothing.
use Rattle.std.specs.Prelude.{Some}
use Prim.Native.Nat.{ℕ}
use mathlib.Core.Path.{◌≡◌, refl, sym, ◌∙◌}
use mathlib.Core.Bool.{Bool, true, false, false≢true, ◌&&◌, beq}
use borrow.Author.Tests.{eqb-true, eq-eqb}
use Rattle.target.specs.declared.NameNumber.{NameNumber}
use Rattle.target.proofs.Laws.{name_true, name_refl, same_true, same_refl, option_true, option_refl}
use Rattle.transaction.specs.declared.RefLog.{RefLog}
use Rattle.transaction.specs.declared.LogChange.{LogChange}
use Rattle.transaction.specs.declared.PreviousValue.{PreviousValue}
use Rattle.transaction.specs.declared.Change.{Change}
use Rattle.transaction.specs.declared.Change.TheVariants.{Update, Delete}
use Rattle.transaction.specs.declared.RefEdit.{RefEdit}
use Rattle.transaction.specs.Change.{expected_target}
use Rattle.transaction.specs.Fields.{ref_log_byte, previous_byte, previous_of}
use Rattle.transaction.specs.Same.{same_ref_log, same_log_change, same_previous, same_change, same_ref_edit}
use Rattle.transaction.proofs.Laws.{both}
use Rattle.transaction.proofs.Fields.{ref_log_back, previous_back}

-- both parts of a test that holds
parts : (p q : Bool) → (p && q) ≡ true → (p ≡ true) × (q ≡ true)
parts true q h = (refl, h)
parts false q h = absurd (false≢true h)

-- what is made of parts that are equal where their tests hold is equal where the whole test holds
from_two : {A B C : Type 0} (f : A → B → C) {a a' : A} {b b' : B} (p q : Bool) → (p ≡ true → a ≡ a') → (q ≡ true → b ≡ b') → (p && q) ≡ true → f a b ≡ f a' b'
from_two f p q x y h = let t = parts p q h in let e = x t.0 in let g = y t.1 in cc

from_three : {A B C D : Type 0} (f : A → B → C → D) {a a' : A} {b b' : B} {c c' : C} (p q r : Bool) → (p ≡ true → a ≡ a') → (q ≡ true → b ≡ b') → (r ≡ true → c ≡ c') → (p && q && r) ≡ true → f a b c ≡ f a' b' c'
from_three f p q r x y z h = let t = parts (p && q) r h in let u = from_two f p q x y t.0 in let g = z t.1 in cc

flag_true : (a b : Bool) → beq a b ≡ true → a ≡ b
flag_true true true h = refl
flag_true true false h = absurd (false≢true h)
flag_true false true h = absurd (false≢true h)
flag_true false false h = refl

flag_refl : (a : Bool) → beq a a ≡ true
flag_refl true = refl
flag_refl false = refl

pub ref_log_true : (a b : RefLog) → same_ref_log a b ≡ true → a ≡ b
ref_log_true a b h = let e : ref_log_byte a ≡ ref_log_byte b = eqb-true _ _ h in cc (ref_log_back a, ref_log_back b)

pub ref_log_refl : (a : RefLog) → same_ref_log a a ≡ true
ref_log_refl a = eq-eqb (ref_log_byte a) (ref_log_byte a) refl

pub log_change_true : (a b : LogChange) → same_log_change a b ≡ true → a ≡ b
log_change_true a b h = from_three made _ _ _ (ref_log_true a.mode b.mode) (flag_true a.force_create_reflog b.force_create_reflog) (eqb-true a.message b.message) h
  where
    made : RefLog → Bool → ℕ → LogChange
    made mode force message = record { mode = mode; force_create_reflog = force; message = message }

pub log_change_refl : (a : LogChange) → same_log_change a a ≡ true
log_change_refl a = both _ _ (both _ _ (ref_log_refl a.mode) (flag_refl a.force_create_reflog)) (eq-eqb a.message a.message refl)

pub previous_true : (a b : PreviousValue) → same_previous a b ≡ true → a ≡ b
previous_true a b h = let e : Some a ≡ Some b = sym (previous_back a) ∙ from_two previous_of _ _ (eqb-true (previous_byte a) (previous_byte b)) (option_true (expected_target a) (expected_target b)) h ∙ previous_back b in cc

pub previous_refl : (a : PreviousValue) → same_previous a a ≡ true
previous_refl a = both _ _ (eq-eqb (previous_byte a) (previous_byte a) refl) (option_refl (expected_target a))

pub change_true : (a b : Change) → same_change a b ≡ true → a ≡ b
change_true (Update log expected new) (Update log' expected' new') h = from_three Update _ _ _ (log_change_true log log') (previous_true expected expected') (same_true new new') h
change_true (Update log expected new) (Delete expected' log') h = absurd (false≢true h)
change_true (Delete expected log) (Update log' expected' new') h = absurd (false≢true h)
change_true (Delete expected log) (Delete expected' log') h = from_two Delete _ _ (previous_true expected expected') (ref_log_true log log') h

pub change_refl : (a : Change) → same_change a a ≡ true
change_refl (Update log expected new) = both _ _ (both _ _ (log_change_refl log) (previous_refl expected)) (same_refl new)
change_refl (Delete expected log) = both _ _ (previous_refl expected) (ref_log_refl log)

pub ref_edit_true : (a b : RefEdit) → same_ref_edit a b ≡ true → a ≡ b
ref_edit_true a b h = from_three made _ _ _ (change_true a.change b.change) (name_true a.name b.name) (flag_true a.deref b.deref) h
  where
    made : Change → NameNumber → Bool → RefEdit
    made change name deref = record { change = change; name = name; deref = deref }

pub ref_edit_refl : (a : RefEdit) → same_ref_edit a a ≡ true
ref_edit_refl a = both _ _ (both _ _ (change_refl a.change) (name_refl a.name)) (flag_refl a.deref)
