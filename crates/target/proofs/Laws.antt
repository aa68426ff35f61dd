-- What a target's id says of it, and that the tests for equality mean equality: `..-true`, that the test holds of equals only, `..-refl`, that it holds of each with itself, and `..-false`, that what it tells apart differs.
-- Assumes nothing.
use Rattle.std.specs.Prelude.{Option, Some, None}
use Prim.Native.Nat.{ℕ}
use mathlib.Core.Path.{◌≡◌, refl, sym, ap, ◌∙◌}
use mathlib.Core.Bool.{Bool, true, false, true≢false, false≢true}
use native.Mathlib.Omega.{arith}
use lib.Dec.{eqb}
use borrow.Author.Tests.{eqb-true, eq-eqb}
use Rattle.target.specs.declared.NameNumber.{NameNumber}
use Rattle.target.specs.declared.ObjectNumber.{ObjectNumber}
use Rattle.target.specs.declared.Target.{Target}
use Rattle.target.specs.declared.Target.TheVariants.{Object, Symbolic}
use Rattle.target.specs.Target.{try_id, is_null, same, same_name, same_object, same_option, is_object, is_symbolic}
use Rattle.target.specs.Fields.{target_byte}

pub no_id_not_null : (t : Target) (r : Option ObjectNumber) → r ≡ try_id t → r ≡ None → false ≡ is_null t
no_id_not_null (Object o) r p q = absurd (let z : ◌≡◌ {A = ℕ} 0 1 = cc in omega arith)
no_id_not_null (Symbolic n) r p q = refl

pub id_null : (t : Target) (r : Option ObjectNumber) (o : ObjectNumber) → r ≡ try_id t → r ≡ Some o → eqb o.0 0 ≡ is_null t
id_null (Object u) r o p q = let e : o ≡ u = cc in ap (λ (x : ObjectNumber). eqb x.0 0) e
id_null (Symbolic n) r o p q = absurd (let z : ◌≡◌ {A = ℕ} 0 1 = cc in omega arith)

-- what a test that holds of each with itself tells apart differs
pub apart : {A : Type 0} (test : A → A → Bool) → ((a : A) → test a a ≡ true) → (a b : A) → test a b ≡ false → a ≡ b → ⊥
apart test self a b h e = true≢false (sym (self a) ∙ ap (test a) e ∙ h)

pub name_true : (a b : NameNumber) → same_name a b ≡ true → a ≡ b
name_true a b h = ap numbered (eqb-true a.0 b.0 h)
  where
    numbered : ℕ → NameNumber
    numbered n = record { 0 = n }

pub name_refl : (a : NameNumber) → same_name a a ≡ true
name_refl a = eq-eqb a.0 a.0 refl

pub object_true : (a b : ObjectNumber) → same_object a b ≡ true → a ≡ b
object_true a b h = ap numbered (eqb-true a.0 b.0 h)
  where
    numbered : ℕ → ObjectNumber
    numbered n = record { 0 = n }

pub object_refl : (a : ObjectNumber) → same_object a a ≡ true
object_refl a = eq-eqb a.0 a.0 refl

pub same_true : (a b : Target) → same a b ≡ true → a ≡ b
same_true (Object a) (Object b) h = ap Object (object_true a b h)
same_true (Object a) (Symbolic b) h = absurd (false≢true h)
same_true (Symbolic a) (Object b) h = absurd (false≢true h)
same_true (Symbolic a) (Symbolic b) h = ap Symbolic (name_true a b h)

pub same_refl : (a : Target) → same a a ≡ true
same_refl (Object a) = object_refl a
same_refl (Symbolic a) = name_refl a

pub same_false : (a b : Target) → same a b ≡ false → a ≡ b → ⊥
same_false = apart same same_refl

pub option_true : (a b : Option Target) → same_option a b ≡ true → a ≡ b
option_true None None h = refl
option_true None (Some b) h = absurd (false≢true h)
option_true (Some a) None h = absurd (false≢true h)
option_true (Some a) (Some b) h = ap Some (same_true a b h)

pub option_refl : (a : Option Target) → same_option a a ≡ true
option_refl None = refl
option_refl (Some a) = same_refl a

pub option_false : (a b : Option Target) → same_option a b ≡ false → a ≡ b → ⊥
option_false = apart same_option option_refl

-- ---- a kind byte tells an object and a link

pub object_is : (t : Option Target) (b : ℕ) → b ≡ target_byte t → eqb b 1 ≡ is_object t
object_is None b e = rw e
object_is (Some (Object o)) b e = rw e
object_is (Some (Symbolic n)) b e = rw e

pub symbolic_is : (t : Option Target) (b : ℕ) → b ≡ target_byte t → eqb b 2 ≡ is_symbolic t
symbolic_is None b e = rw e
symbolic_is (Some (Object o)) b e = rw e
symbolic_is (Some (Symbolic n)) b e = rw e
