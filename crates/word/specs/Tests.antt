-- Tests made of tests: of a list of them, of every number below a bound, of two lists element by element.
use Rattle.std.specs.Prelude.{◌≡◌, Bool, true, false, ◌&&◌, not, List, [], ◌∷◌, ℕ, zero, suc, ◌<◌, eqb}

-- every test of the list passes
abbrev pub every : List Bool → Bool
every [] = true
every (t ∷ ts) = t && every ts

-- every number below n passes the test: as a statement, and as a test
abbrev pub Below : ℕ → (ℕ → Bool) → Type 0
Below n p = (i : ℕ) → i < n → p i ≡ true

unfoldable pub below : ℕ → (ℕ → Bool) → Bool
below zero p = true
below (suc n) p = below n p && p n

-- some number below n passes the test
abbrev pub some_below : ℕ → (ℕ → Bool) → Bool
some_below n p = not (below n (λ i. not (p i)))

-- the two lists are the same
abbrev pub same_list : List ℕ → List ℕ → Bool
same_list [] [] = true
same_list [] (y ∷ ys) = false
same_list (x ∷ xs) [] = false
same_list (x ∷ xs) (y ∷ ys) = eqb x y && same_list xs ys
