-- Byte order, from a place on: what a turn of a loop over the bytes of two names tells. Assumes nothing.
use mathlib.Core.Path.{◌≡◌, refl, sym, ◌∙◌}
use mathlib.Core.Bool.{true, false, or-false}
use mathlib.Core.List.{List, [], ◌∷◌}
use Prim.Native.Nat.{ℕ, ◌+◌, ◌≤◌, ◌<◌}
use native.Mathlib.Numerals.{add-one}
use native.Mathlib.Omega.{arith}
use lib.ListN.{length, drop, get_or, drop_of_length-le}
use lib.Seq.{drop-cons}
use lib.Dec.{ltb}
use borrow.Author.Tests.{eq-eqb, ne_eqb, le-ltb}
use Rattle.model.specs.Names.{before}

before_none : (l : List ℕ) → before l [] ≡ false
before_none [] = refl
before_none (x ∷ xs) = refl

module _ (a b : List ℕ) (i : ℕ) (h : before (drop i a) (drop i b) ≡ before a b) where
  pub before_short : length a ≤ i → i < length b → true ≡ before a b
  before_short p q = rw (drop_of_length-le a p, drop-cons b i 0 q) at h

  pub before_not : i < length a → i < length b → (get_or a i 0 ≡ get_or b i 0 → ⊥) → ltb (get_or a i 0) (get_or b i 0) ≡ before a b
  before_not p q d = sym (or-false _) ∙ (rw (drop-cons a i 0 p, drop-cons b i 0 q, ne_eqb _ _ d) at h)

  pub before_more : i < length a → i < length b → get_or a i 0 ≡ get_or b i 0 → before (drop (i + 1) a) (drop (i + 1) b) ≡ before a b
  before_more p q e =
      let l : get_or b i 0 ≤ get_or a i 0 = omega arith in
      rw add-one (rw (drop-cons a i 0 p, drop-cons b i 0 q, le-ltb _ _ l, eq-eqb _ _ e) at h)

  pub before_end : length b ≤ i → false ≡ before a b
  before_end q = rw (drop_of_length-le b q, before_none) at h
