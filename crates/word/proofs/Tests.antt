-- What the tests made of tests say: all pass exactly where each does. Assumes nothing.
use mathlib.Core.Path.{◌≡◌, refl, sym, ap, ap₂, ◌∙◌}
use mathlib.Core.Bool.{Bool, true, false, ◌&&◌, ◌||◌, not, false≢true, true≢false, and-false, and-true}
use mathlib.Core.List.{List, [], ◌∷◌}
use Prim.Native.Nat.{ℕ, zero, suc, ◌+◌, ◌<◌, ◌≤◌}
use native.Mathlib.Numerals.{add-one}
use native.Mathlib.Omega.{arith}
use lib.ListN.{get_or}
use lib.Dec.{eqb}
use borrow.Author.Tests.{not-true, not-false, eqb-true, eqb-false, eq-eqb}
use Rattle.word.specs.Tests.{every, Below, below, some_below, same_list}

pub both_true : (a b : Bool) → a && b ≡ true → (a ≡ true) × (b ≡ true)
both_true true b e = (refl, e)
both_true false b e = absurd (false≢true e)

pub true_both : {a b : Bool} → a ≡ true → b ≡ true → a && b ≡ true
true_both p q = rw (p, q)

-- ---- a list of tests; past its end there is none to fail

pub every_at : (ts : List Bool) (i : ℕ) → every ts ≡ true → get_or ts i true ≡ true
every_at [] i e = refl
every_at (t ∷ ts) zero e = (both_true t (every ts) e).0
every_at (t ∷ ts) (suc i) e = every_at ts i (both_true t (every ts) e).1

pub every_false : (ts : List Bool) (i : ℕ) → get_or ts i true ≡ false → every ts ≡ false
every_false [] i e = absurd (true≢false e)
every_false (t ∷ ts) zero e = rw e
every_false (t ∷ ts) (suc i) e = rw (every_false ts i e) (and-false t)

-- ---- every number below n

pub below_false : (n : ℕ) (p : ℕ → Bool) (i : ℕ) → i < n → p i ≡ false → below n p ≡ false
unfolding below
below_false zero p i h e = absurd (omega arith)
below_false (suc n) p i h e = go (below_false n p i) (eqb i n) refl
  where
    go : (i < n → p i ≡ false → below n p ≡ false) → (t : Bool) → eqb i n ≡ t → below n p && p n ≡ false
    go k true q = let f : p n ≡ false = ap p (sym (eqb-true i n q)) ∙ e in rw f (and-false (below n p))
    go k false q = let d : i ≡ n → ⊥ = eqb-false i n q in rw (k (omega arith) e)

pub below_true : (n : ℕ) (p : ℕ → Bool) → below n p ≡ true → Below n p
below_true n p e i h = go (p i) refl
  where
    go : (t : Bool) → p i ≡ t → p i ≡ true
    go true q = q
    go false q = absurd (false≢true (sym (below_false n p i h q) ∙ e))

pub true_below : (n : ℕ) (p : ℕ → Bool) → Below n p → below n p ≡ true
unfolding below
true_below zero p h = refl
true_below (suc n) p h = true_both (true_below n p (λ i k. h i (omega arith))) (h n (omega arith))

-- one number more: a loop's turn
pub below_more : (n : ℕ) (p : ℕ → Bool) → below n p ≡ true → p n ≡ true → below (n + 1) p ≡ true
unfolding below
below_more n p e h = rw add-one (true_both e h)

-- ---- some number below n

module _ (n : ℕ) (p : ℕ → Bool) where
  pub some_false : some_below n p ≡ false → (i : ℕ) → i < n → p i ≡ false
  some_false e i h = not-true (p i) (below_true n (λ j. not (p j)) (not-false (below n (λ j. not (p j))) e) i h)

  pub false_some : ((i : ℕ) → i < n → p i ≡ false) → some_below n p ≡ false
  false_some k = ap not (true_below n (λ j. not (p j)) (λ i h. ap not (k i h)))

  pub some_true : (i : ℕ) → i < n → p i ≡ true → some_below n p ≡ true
  some_true i h e = ap not (below_false n (λ j. not (p j)) i h (ap not e))

-- one number more
pub some_more : (n : ℕ) (p : ℕ → Bool) → some_below (n + 1) p ≡ (some_below n p || p n)
unfolding below
some_more n p = rw add-one (go (below n (λ j. not (p j))) (p n))
  where
    go : (a b : Bool) → not (a && not b) ≡ (not a || b)
    go true true = refl
    go true false = refl
    go false true = refl
    go false false = refl

-- the one that is found
pub record Found (n : ℕ) (p : ℕ → Bool) : Type 0 where
  pub place : ℕ
  pub there : place < n
  pub holds : p place ≡ true

pub some_found : (n : ℕ) (p : ℕ → Bool) → some_below n p ≡ true → Found n p
unfolding below
some_found zero p e = absurd (false≢true e)
some_found (suc n) p e = go (p n) refl (some_found n p)
  where
    go : (t : Bool) → p n ≡ t → (some_below n p ≡ true → Found n p) → Found (suc n) p
    go true q rec = record { place = n; there = omega arith; holds = q }
    go false q rec =
        let f : Found n p = rec (rw (q, and-true) at e) in
        record { place = f.place; there = omega (arith, f.there); holds = f.holds }

-- a loop that looks for one: none of the first i passes
pub record Unmet (p : ℕ → Bool) (n i : ℕ) : Type 0 where
  pub upto : i ≤ n
  pub none : (j : ℕ) → j < i → p j ≡ false

module _ (p : ℕ → Bool) (n : ℕ) where
  pub unmet_start : Unmet p n 0
  unmet_start = record { upto = omega arith; none = λ j h. absurd (omega arith) }

  pub unmet_more : (i : ℕ) → Unmet p n i → i < n → p i ≡ false → Unmet p n (i + 1)
  unmet_more i u h e = record { upto = omega arith; none = λ j k. go j k (eqb j i) refl }
    where
      go : (j : ℕ) → j < i + 1 → (t : Bool) → eqb j i ≡ t → p j ≡ false
      go j k true q = ap p (eqb-true j i q) ∙ e
      go j k false q = let d : j ≡ i → ⊥ = eqb-false j i q in u.none j (omega arith)

  -- the same, where r is what the test says
  pub unmet_next : (i : ℕ) (r : Bool) → Unmet p n i → i < n → r ≡ p i → r ≡ false → Unmet p n (i + 1)
  unmet_next i r u h er e = unmet_more i u h (sym er ∙ e)

  pub unmet_here : (i : ℕ) (r : Bool) → i < n → r ≡ p i → r ≡ true → some_below n p ≡ true
  unmet_here i r h er e = some_true n p i h (sym er ∙ e)

  pub unmet_end : (i : ℕ) → Unmet p n i → n ≤ i → false ≡ some_below n p
  unmet_end i u h = sym (false_some n p (λ j k. u.none j (omega arith)))

-- ---- two lists

pub same_list_true : (xs ys : List ℕ) → same_list xs ys ≡ true → xs ≡ ys
same_list_true [] [] e = refl
same_list_true [] (y ∷ ys) e = absurd (false≢true e)
same_list_true (x ∷ xs) [] e = absurd (false≢true e)
same_list_true (x ∷ xs) (y ∷ ys) e =
    let b : (eqb x y ≡ true) × (same_list xs ys ≡ true) = both_true (eqb x y) (same_list xs ys) e in
    ap₂ (λ (n : ℕ) (l : List ℕ). n ∷ l) (eqb-true x y b.0) (same_list_true xs ys b.1)

pub same_list_refl : (xs : List ℕ) → same_list xs xs ≡ true
same_list_refl [] = refl
same_list_refl (x ∷ xs) = true_both (eq-eqb x x refl) (same_list_refl xs)

pub same_list_false : (xs ys : List ℕ) → same_list xs ys ≡ false → xs ≡ ys → ⊥
same_list_false xs ys h e = true≢false (sym (same_list_refl xs) ∙ ap (same_list xs) e ∙ h)
