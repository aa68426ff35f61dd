-- Byte order is strict and total: no name stands before itself, and of two that differ one stands before the other. Assumes nothing.
use mathlib.Core.Path.{◌≡◌, refl, sym, ◌∙◌}
use mathlib.Core.Bool.{Bool, true, false, ◌&&◌, ◌||◌, true≢false, false≢true}
use mathlib.Core.List.{List, [], ◌∷◌}
use mathlib.Core.Logic.{◌⊎◌}
use mathlib.Core.Logic.◌⊎◌.{inl, inr}
use Prim.Native.Nat.{ℕ, ◌≤◌, ◌<◌}
use native.Mathlib.Omega.{arith}
use lib.Dec.{eqb, ltb}
use borrow.Author.Tests.{eqb-true, eqb-false, eq-eqb, ltb-true, ltb-false, lt-ltb, le-ltb}
use Rattle.model.specs.Names.{same_bytes, before}

module _ (x y : ℕ) (xs ys : List ℕ) where
  before_inv : before (x ∷ xs) (y ∷ ys) ≡ true → (x < y) ⊎ ((x ≡ y) × (before xs ys ≡ true))
  before_inv e = go (ltb x y) refl (eqb x y) refl e
    where
      go : (l : Bool) → ltb x y ≡ l → (q : Bool) → eqb x y ≡ q → (l || (q && before xs ys)) ≡ true
          → (x < y) ⊎ ((x ≡ y) × (before xs ys ≡ true))
      go true p q r h = inl (ltb-true x y p)
      go false p true r h = inr (eqb-true x y r, h)
      go false p false r h = absurd (false≢true h)

  before_less : x < y → before (x ∷ xs) (y ∷ ys) ≡ true
  before_less h = rw (lt-ltb x y h)

  before_same : x ≡ y → before xs ys ≡ true → before (x ∷ xs) (y ∷ ys) ≡ true
  before_same e h = let l : y ≤ x = omega arith in rw (le-ltb x y l, eq-eqb x y e, h)

pub before_itself : (a : List ℕ) → before a a ≡ false
before_itself [] = refl
before_itself (x ∷ xs) = let l : x ≤ x = omega arith in rw (le-ltb x x l, eq-eqb x x refl, before_itself xs)

pub before_trans : (a b c : List ℕ) → before a b ≡ true → before b c ≡ true → before a c ≡ true
before_trans [] [] c e f = absurd (false≢true e)
before_trans [] (y ∷ ys) [] e f = absurd (false≢true f)
before_trans [] (y ∷ ys) (z ∷ zs) e f = refl
before_trans (x ∷ xs) [] c e f = absurd (false≢true e)
before_trans (x ∷ xs) (y ∷ ys) [] e f = absurd (false≢true f)
before_trans (x ∷ xs) (y ∷ ys) (z ∷ zs) e f = go (before_trans xs ys zs) (before_inv x y xs ys e) (before_inv y z ys zs f)
  where
    go : (before xs ys ≡ true → before ys zs ≡ true → before xs zs ≡ true) → (x < y) ⊎ ((x ≡ y) × (before xs ys ≡ true)) → (y < z) ⊎ ((y ≡ z) × (before ys zs ≡ true)) → before (x ∷ xs) (z ∷ zs) ≡ true
    go rec (inl p) (inl q) = before_less x z xs zs (omega arith)
    go rec (inl p) (inr (q, h)) = before_less x z xs zs (omega arith)
    go rec (inr (p, g)) (inl q) = before_less x z xs zs (omega arith)
    go rec (inr (p, g)) (inr (q, h)) = before_same x z xs zs (p ∙ q) (rec g h)

pub before_not_after : (a b : List ℕ) → before a b ≡ true → before b a ≡ false
before_not_after a b e = go (before b a) refl
  where
    go : (t : Bool) → before b a ≡ t → before b a ≡ false
    go true p = absurd (true≢false (sym (before_trans a b a e p) ∙ before_itself a))
    go false p = p

-- two that differ
pub before_or_after : (a b : List ℕ) → same_bytes a b ≡ false → before a b ≡ false → before b a ≡ true
before_or_after [] [] s e = absurd (true≢false s)
before_or_after [] (y ∷ ys) s e = absurd (true≢false e)
before_or_after (x ∷ xs) [] s e = refl
before_or_after (x ∷ xs) (y ∷ ys) s e = go (before_or_after xs ys) (ltb x y) refl (eqb x y) refl s e
  where
    less : y ≤ x → (x ≡ y → ⊥) → y < x
    less l d = omega arith

    go : (same_bytes xs ys ≡ false → before xs ys ≡ false → before ys xs ≡ true) → (l : Bool) → ltb x y ≡ l → (q : Bool) → eqb x y ≡ q → (q && same_bytes xs ys) ≡ false → (l || (q && before xs ys)) ≡ false
        → before (y ∷ ys) (x ∷ xs) ≡ true
    go rec true p q r s e = absurd (true≢false e)
    go rec false p true r s e = before_same y x ys xs (sym (eqb-true x y r)) (rec s e)
    go rec false p false r s e = before_less y x ys xs (less (ltb-false x y p) (eqb-false x y r))

-- a name is not empty, and so stands behind the empty one, which a reader begins with
pub before_first : (a : List ℕ) → (a ≡ [] → ⊥) → before [] a ≡ true
before_first [] h = absurd (h refl)
before_first (x ∷ xs) h = refl
