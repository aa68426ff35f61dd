-- What a step of a chain that came through says: the step before it came through, with a value that the next one took.
-- Assumes nothing.
use Rattle.std.specs.Prelude.{Option, Some, None, Result, Ok, Err}
use mathlib.Core.Path.{◌≡◌, refl}
use mathlib.Core.Bool.{Bool, true, false, true≢false, cond}
use Prim.Native.Nat.{ℕ}
use native.Mathlib.Omega.{arith}
use Rattle.target.specs.declared.NameNumber.{NameNumber}
use Rattle.model.specs.declared.Refusal.{Refusal}
use Rattle.model.specs.Store.{Prepared, is_prepared}
use Rattle.model.specs.Outcome.{refuse_if, or_refuse}
use Rattle.model.specs.Outcome as outcome
use Rattle.model.specs.EditList as option

-- ---- a value is of one kind, and of one value

pub refuse_pass : {A : Type 0} {r : Refusal} {a : A} → Err r ≡ Ok a → ⊥
refuse_pass e = let z : ◌≡◌ {A = ℕ} 0 1 = cc in omega arith

pub none_some : {A : Type 0} {a : A} → None ≡ Some a → ⊥
none_some e = let z : ◌≡◌ {A = ℕ} 0 1 = cc in omega arith

pub no_name : {n : NameNumber} → None ≡ Some n → ⊥
no_name e = let z : ◌≡◌ {A = ℕ} 0 1 = cc in omega arith

pub some_is : {A : Type 0} {a b : A} → Some a ≡ Some b → a ≡ b
some_is e = cc

pub pass_is : {A : Type 0} {a b : A} → ◌≡◌ {A = Result A Refusal} (Ok a) (Ok b) → a ≡ b
pass_is e = cc

pub refuse_is : {A : Type 0} {r r' : Refusal} → ◌≡◌ {A = Result A Refusal} (Err r) (Err r') → r ≡ r'
refuse_is e = cc

-- ---- chains

pub pass_inv : {A B : Type 0} (m : Result A Refusal) (f : A → Result B Refusal) (b : B)
    → outcome.◌>>=◌ m f ≡ Ok b → (a : A) × (m ≡ Ok a) × (f a ≡ Ok b)
pass_inv (Err r) f b e = absurd (refuse_pass e)
pass_inv (Ok a) f b e = (a, refl, e)

pub some_inv : {A B : Type 0} (m : Option A) (f : A → Option B) (b : B)
    → option.◌>>=◌ m f ≡ Some b → (a : A) × (m ≡ Some a) × (f a ≡ Some b)
some_inv None f b e = absurd (none_some e)
some_inv (Some a) f b e = (a, refl, e)

-- the same for a chain of several steps: the rest of a proof gets the value as a variable, so terms stay short. Write m out
-- and leave f as `_`
pub pass_then : {A B C : Type 0} (m : Result A Refusal) (f : A → Result B Refusal) (b : B)
    → outcome.◌>>=◌ m f ≡ Ok b → ((a : A) → m ≡ Ok a → f a ≡ Ok b → C) → C
pass_then m f b e k = let i = pass_inv m f b e in k i.0 i.1 i.2

pub some_then : {A B C : Type 0} (m : Option A) (f : A → Option B) (b : B)
    → option.◌>>=◌ m f ≡ Some b → ((a : A) → m ≡ Some a → f a ≡ Some b → C) → C
some_then m f b e k = let i = some_inv m f b e in k i.0 i.1 i.2

-- ---- tests

-- a test that would have refused did not hold
pub refuse_if_inv : (t : Bool) (r : Refusal) → refuse_if t r ≡ Ok tt → t ≡ false
refuse_if_inv true r e = absurd (refuse_pass e)
refuse_if_inv false r e = refl

-- past 15 nothing is prepared
pub not_prepared : (o : Option Prepared) → is_prepared o ≡ false → o ≡ None
not_prepared None e = refl
not_prepared (Some p) e = absurd (true≢false e)

pub or_refuse_inv : {A : Type 0} (r : Refusal) (o : Option A) (a : A) → or_refuse r o ≡ Ok a → o ≡ Some a
or_refuse_inv r None a e = absurd (refuse_pass e)
or_refuse_inv r (Some b) a e = let q : b ≡ a = cc in rw q

-- the arm that refuses was not taken
pub cond_pass : {A : Type 0} (t : Bool) (r : Refusal) (m : Result A Refusal) (a : A)
    → cond t (Err r) m ≡ Ok a → (t ≡ false) × (m ≡ Ok a)
cond_pass true r m a e = absurd (refuse_pass e)
cond_pass false r m a e = (refl, e)

-- the arm that gives nothing was not taken
pub cond_some : {A : Type 0} (t : Bool) (o : Option A) (a : A) → cond t o None ≡ Some a → (t ≡ true) × (o ≡ Some a)
cond_some true o a e = (refl, e)
cond_some false o a e = absurd (none_some e)

pub cond_none : {A : Type 0} (t : Bool) (o : Option A) (a : A) → cond t None o ≡ Some a → (t ≡ false) × (o ≡ Some a)
cond_none true o a e = absurd (none_some e)
cond_none false o a e = (refl, e)
