-- What a part of a call comes to: a refusal, or a value that the next part goes on with.
use Rattle.std.specs.Prelude.{Bool, true, false, Option, Some, None, Result, Ok, Err}
use Rattle.model.specs.declared.Refusal.{Refusal}

-- the first refusal decides
infixl 20 ◌>>=◌ ◌>>◌
abbrev pub ◌>>=◌ : {A B : Type 0} → Result A Refusal → (A → Result B Refusal) → Result B Refusal
Err r >>= f = Err r
Ok a >>= f = f a

abbrev pub ◌>>◌ : {A B : Type 0} → Result A Refusal → Result B Refusal → Result B Refusal
m >> n = m >>= λ _. n

abbrev pub refuse_if : Bool → Refusal → Result (Unit {0}) Refusal
refuse_if true r = Err r
refuse_if false r = Ok tt

abbrev pub or_refuse : {A : Type 0} → Refusal → Option A → Result A Refusal
or_refuse r None = Err r
or_refuse r (Some a) = Ok a
