-- A name beneath another: lengths and the `/` tell first, then the bytes before it. Assumes nothing.
use mathlib.Core.Path.{◌≡◌, refl, sym, ap, ◌∙◌}
use mathlib.Core.Bool.{Bool, true, false, ◌&&◌, and-true, and-false}
use mathlib.Core.List.{List, [], ◌∷◌, ◌++◌}
use Prim.Native.Nat.{ℕ, ◌<◌, ◌≤◌}
use native.Mathlib.Omega.{arith}
use lib.ListN.{length, get_or, take}
use lib.Dec.{eqb, ltb}
use borrow.Author.Tests.{eq-eqb, ne_eqb, eqb-true, eqb-false, ltb-true, ltb-false}
use Rattle.word.specs.Tests.{same_list}
use Rattle.model.specs.Names.{begins, beneath}

-- one byte behind a prefix
short : (a n : List ℕ) (y : ℕ) → length n ≤ length a → begins (a ++ (y ∷ [])) n ≡ false
short [] [] y h = refl
short [] (b ∷ n) y h = absurd (omega arith)
short (x ∷ a) [] y h = refl
short (x ∷ a) (b ∷ n) y h = rw (short a n y (omega arith)) (and-false (eqb x b))

parts : (a n : List ℕ) (y : ℕ) → length a < length n
    → begins (a ++ (y ∷ [])) n ≡ (same_list a (take (length a) n) && eqb y (get_or n (length a) 0))
parts [] [] y h = absurd (omega arith)
parts [] (b ∷ n) y h = and-true (eqb y b)
parts (x ∷ a) [] y h = absurd (omega arith)
parts (x ∷ a) (b ∷ n) y h = go (eqb x b) (parts a n y (omega arith))
  where
    go : (t : Bool) → begins (a ++ (y ∷ [])) n ≡ (same_list a (take (length a) n) && eqb y (get_or n (length a) 0))
        → (t && begins (a ++ (y ∷ [])) n) ≡ (t && same_list a (take (length a) n) && eqb y (get_or n (length a) 0))
    go true e = e
    go false e = refl

module _ (n a : List ℕ) where
  pub beneath_short : length n ≤ length a → false ≡ beneath n a
  unfolding beneath
  beneath_short h = sym (short a n 47 h)

  module _ (h : length a < length n) where
    pub beneath_not : (get_or n (length a) 0 ≡ 47 → ⊥) → false ≡ beneath n a
    unfolding beneath
    beneath_not d =
        sym (parts a n 47 h ∙ ap (λ (t : Bool). same_list a (take (length a) n) && t) (ne_eqb 47 (get_or n (length a) 0) (λ e. d (sym e))) ∙ and-false (same_list a (take (length a) n)))

    beneath_part : (r : Bool) → get_or n (length a) 0 ≡ 47 → r ≡ same_list a (take (length a) n) → r ≡ beneath n a
    unfolding beneath
    beneath_part r e q =
        q ∙ sym (parts a n 47 h ∙ ap (λ (t : Bool). same_list a (take (length a) n) && t) (eq-eqb 47 (get_or n (length a) 0) (sym e)) ∙ and-true _)

  -- the three tests of the code
  pub beneath_is : beneath n a ≡ (ltb (length a) (length n) && (eqb (get_or n (length a) 0) 47 && same_list a (take (length a) n)))
  beneath_is = go (ltb (length a) (length n)) refl
    where
      reached : length a < length n → (t : Bool) → eqb (get_or n (length a) 0) 47 ≡ t → beneath n a ≡ (t && same_list a (take (length a) n))
      reached h true q = sym (beneath_part h (same_list a (take (length a) n)) (eqb-true (get_or n (length a) 0) 47 q) refl)
      reached h false q = sym (beneath_not h (eqb-false (get_or n (length a) 0) 47 q))

      go :
          (t : Bool)
          → ltb (length a) (length n) ≡ t
          → beneath n a ≡ (t && (eqb (get_or n (length a) 0) 47 && same_list a (take (length a) n)))
      go true q = reached (ltb-true (length a) (length n) q) (eqb (get_or n (length a) 0) 47) refl
      go false q = sym (beneath_short (ltb-false (length a) (length n) q))
