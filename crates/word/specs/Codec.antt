-- The form of an element in a slot, and what stands in a table of such slots.
use Rattle.std.specs.Prelude.{◌≡◌, List, [], ◌∷◌, Bool, true, false, ◌&&◌, cond, ℕ, ◌+◌, ◌*◌, length, eqb, ltb, Option, Some, None}
use Rattle.word.specs.Be.{Bytes, cut}
use Rattle.word.specs.Tests.{below}
use Rattle.word.specs.Table.{tabulate}

-- A form w bytes wide for the elements that obey `Fits`. `test` says which slots hold one. No element need have a form of
-- zeros.
pub record Codec (A : Type 0) (Fits : A → Type 0) : Type 0 where
  pub w : ℕ
  pub enc : A → List ℕ
  pub dec : List ℕ → A
  pub test : List ℕ → Bool
  pub wide : (x : A) → length (enc x) ≡ w
  pub bytes : (x : A) → Fits x → Bytes (enc x)
  pub dec_enc : (x : A) → Fits x → dec (enc x) ≡ x
  pub test_enc : (x : A) → Fits x → test (enc x) ≡ true
  pub enc_dec : (r : List ℕ) → Bytes r → length r ≡ w → test r ≡ true → enc (dec r) ≡ r
  pub fits_dec : (r : List ℕ) → Bytes r → length r ≡ w → test r ≡ true → Fits (dec r)

-- something was read
abbrev pub is_some : {A : Type 0} → Option A → Bool
is_some None = false
is_some (Some x) = true

-- slot i of a table that begins at base
abbrev pub slot : ℕ → ℕ → ℕ → List ℕ → List ℕ
slot base w i r = cut (base + i * w) w r

-- every byte is 0
unfoldable pub zeros : List ℕ → Bool
zeros [] = true
zeros (x ∷ xs) = eqb x 0 && zeros xs

-- where n elements are held: slot i holds one, or is all zeros
unfoldable pub ok_slot : (List ℕ → Bool) → ℕ → ℕ → List ℕ → Bool
ok_slot test n i s = cond (ltb i n) (test s) (zeros s)

-- so do the c slots of a table at base
unfoldable pub ok_table : ℕ → (List ℕ → Bool) → ℕ → ℕ → ℕ → List ℕ → Bool
ok_table w test c n base r = below c (λ i. ok_slot test n i (slot base w i r))

-- the n elements that a table at base holds
unfoldable pub elements : {A : Type 0} → ℕ → (List ℕ → A) → ℕ → ℕ → List ℕ → List A
elements w dec n base r = tabulate n (λ i. dec (slot base w i r))
