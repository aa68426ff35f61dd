-- A table: slots of one width, each the form of one element, and behind the last element slots of zeros.
use Rattle.std.specs.Prelude.{List, [], ◌∷◌, ◌++◌, ℕ, zero, suc, replicate}

-- f 0, f 1, .. f (n - 1)
unfoldable pub tabulate {ℓ} : {A : Type ℓ} → ℕ → (ℕ → A) → List A
tabulate zero f = []
tabulate (suc n) f = f 0 ∷ tabulate n (λ i. f (suc i))

-- c slots of w bytes: the elements' forms, and then zeros
unfoldable pub table : {A : Type 0} → ℕ → (A → List ℕ) → ℕ → List A → List ℕ
table zero enc w xs = []
table (suc c) enc w [] = replicate w 0 ++ table c enc w []
table (suc c) enc w (x ∷ xs) = enc x ++ table c enc w xs
