-- What std says of a list, of a prefix, of byte order, of pieces and of a place, as this library's definitions say it. Assumes nothing.
use Rattle.std.proofs.Common.{◌≡◌, refl, ap, ◌∙◌, Bool, true, false, cond, ◌&&◌, ◌||◌, eqb, ltb, List, [], ◌∷◌, length, take, drop, ℕ, zero, suc, ◌+◌, ◌-◌, ◌≤◌, Less, Equal, Greater, Option, Some, None, unwrap_or, arith, sym}
use native.Mathlib.Numerals.{add-one}
use borrow.Author.Tests.{eqb-true, ltb-false}
use Rattle.std.specs.List.{list_all, list_any, starts_with, slice_split, range_with_len, position_or_len}
use Rattle.std.specs.Cmp.Lexicographic.{slice_partial_cmp}
use Rattle.std.specs.Ordering.{nat_cmp, is_some_and, is_lt, partial_ordering_then}
use Rattle.std.proofs.lemmas.List.Recursion.{is_position_or_len}
use Rattle.model.specs.Basic.{all}
use Rattle.model.specs.Names.{begins, within, before, grow, pieces}
use Rattle.names.specs.Parts.{up_to}
use Rattle.names.proofs.Pieces.{byte_within}
use Rattle.names.proofs.Bytes.{to_end}

pub all_is : {A : Type 0} (p : A → Bool) (xs : List A) → list_all p xs ≡ all p xs
all_is p [] = refl
all_is p (x ∷ xs) = ap (λ (t : Bool). p x && t) (all_is p xs)

pub begins_is : (n p : List ℕ) → starts_with eqb n p ≡ begins p n
begins_is n [] = refl
begins_is [] (x ∷ p) = refl
begins_is (b ∷ n) (x ∷ p) = ap (λ (t : Bool). eqb x b && t) (begins_is n p)

pub before_is : (a b : List ℕ) → is_some_and is_lt (slice_partial_cmp (λ x y. Some (nat_cmp x y)) a b) ≡ before a b
before_is [] [] = refl
before_is [] (y ∷ b) = refl
before_is (x ∷ a) [] = refl
before_is (x ∷ a) (y ∷ b) = go (ltb x y) (eqb x y) (before_is a b)
  where
    go :
        (s t : Bool)
        → is_some_and is_lt (slice_partial_cmp (λ x y. Some (nat_cmp x y)) a b) ≡ before a b
        → is_some_and is_lt (partial_ordering_then (Some (cond s Less (cond t Equal Greater))) (slice_partial_cmp (λ x y. Some (nat_cmp x y)) a b))
        ≡ (s || (t && before a b))
    go true t h = refl
    go false true h = h
    go false false h = refl

pub pieces_is : (c : ℕ) (l : List ℕ) → slice_split (λ b. eqb b c) l ≡ pieces c l
pieces_is c [] = refl
pieces_is c (b ∷ l) = ap (λ (ps : List (List ℕ)). cond (eqb b c) ([] ∷ ps) (grow b ps)) (pieces_is c l)

-- the place that is found, or else the length
module _ (c : ℕ) (l : List ℕ) where
  place_is : up_to c l ≡ position_or_len (λ b. eqb b c) l
  place_is = is_position_or_len (up_to c) (λ b. eqb b c) refl (λ b bs. let e : suc (up_to c bs) ≡ 1 + up_to c bs = omega arith in ap (cond (eqb b c) zero) e) l

  pub place_found :
      (o : Option ℕ)
      → o ≡ cond (ltb (position_or_len (λ b. eqb b c) l) (length l)) (Some (position_or_len (λ b. eqb b c) l)) None
      → (r : ℕ)
      → r ≡ unwrap_or o (length l)
      → r ≡ up_to c l
  place_found o e r f =
      f
      ∙ ap (λ (o : Option ℕ). unwrap_or o (length l)) (e ∙ ap (λ (k : ℕ). cond (ltb k (length l)) (Some k) None) (sym place_is))
      ∙ go (up_to c l) (length l) (byte_within c l) (ltb (up_to c l) (length l)) refl
    where
      go : (u n : ℕ) → u ≤ n → (t : Bool) → ltb u n ≡ t → unwrap_or (cond t (Some u) None) n ≡ u
      go u n h true q = refl
      go u n h false q = let k : n ≤ u = ltb-false u n q in omega arith

-- a test of the numbers from a + 1 on
shifted : (f : ℕ → Bool) (a n : ℕ) → list_any f (range_with_len (a + 1) n) ≡ list_any (λ i. f (i + 1)) (range_with_len a n)
shifted f a zero = refl
shifted f a (suc n) = ap (λ (t : Bool). f (a + 1) || t) (shifted f (a + 1) n)

places : (p n : List ℕ) → (eqb (length p) 0 ≡ false) → list_any (λ i. begins p (drop i n)) (range_with_len 0 (length n)) ≡ within p n
places [] n h = cc
places (x ∷ p) [] h = refl
places (x ∷ p) (b ∷ n) h =
    ap (λ (t : Bool). begins (x ∷ p) (b ∷ n) || t)
    (shifted (λ i. begins (x ∷ p) (drop i (b ∷ n))) 0 (length n) ∙ simp add-one (places (x ∷ p) n h))

module _ (p n : List ℕ) (r : Bool) where
  pub within_empty : r ≡ eqb (length p) 0 → r ≡ true → r ≡ within p n
  within_empty e t = go p n (sym e ∙ t) t
    where
      go : (p n : List ℕ) → eqb (length p) 0 ≡ true → r ≡ true → r ≡ within p n
      go [] [] h t = t
      go [] (b ∷ n) h t = t
      go (x ∷ p) n h t = let e : length (x ∷ p) ≡ 0 = eqb-true (length (x ∷ p)) 0 h in absurd (omega arith)

  pub within_places : r ≡ eqb (length p) 0 → r ≡ false → list_any (λ i. begins p (take (length n - i) (drop i n))) (range_with_len 0 (length n)) ≡ within p n
  within_places e f = simp to_end (places p n (sym e ∙ f))
