-- Lists by their places: what holds of every element, and what the words of the model leave of it. Assumes nothing.
use mathlib.Core.Path.{◌≡◌, refl}
use mathlib.Core.Bool.{Bool, true, false, cond}
use mathlib.Core.List.{List, [], ◌∷◌, ◌++◌, map}
use Prim.Native.Nat.{ℕ, zero, suc, ◌≤◌, ◌<◌}
use native.Mathlib.Omega.{arith}
use lib.ListN.{length, get_or}
use Rattle.model.specs.Basic.{any, select, collect, when}

-- ---- a list with one element more at its end

-- what holds of every element and of the new one holds of every element after it
pub added_at : {A : Type 0} (P : A → Type 0) (d a : A) (xs : List A)
    → ((i : ℕ) → i < length xs → P (get_or xs i d)) → P a → (i : ℕ) → i < length (xs ++ (a ∷ [])) → P (get_or (xs ++ (a ∷ [])) i d)
added_at P d a [] p q zero h = q
added_at P d a [] p q (suc i) h = absurd (omega arith)
added_at P d a (x ∷ xs) p q zero h = p 0 (omega arith)
added_at P d a (x ∷ xs) p q (suc i) h = added_at P d a xs (λ j k. p (suc j) (omega arith)) q i (omega arith)

-- what the new element has in common with what stands past the end, every place keeps
pub added_keeps : {A B : Type 0} (g : A → B) (d a : A) → g a ≡ g d → (xs : List A) (i : ℕ) → g (get_or (xs ++ (a ∷ [])) i d) ≡ g (get_or xs i d)
added_keeps g d a e [] zero = e
added_keeps g d a e [] (suc i) = refl
added_keeps g d a e (x ∷ xs) zero = refl
added_keeps g d a e (x ∷ xs) (suc i) = added_keeps g d a e xs i

-- ---- tests of lists

pub any_same : {A : Type 0} (p q : A → Bool) (d : A) (xs : List A) → ((i : ℕ) → i < length xs → p (get_or xs i d) ≡ q (get_or xs i d))
    → any p xs ≡ any q xs
any_same p q d [] h = refl
any_same p q d (x ∷ xs) h = rw (h 0 (omega arith), any_same p q d xs (λ i k. h (suc i) (omega arith)))

pub any_none : {A : Type 0} (p : A → Bool) (d : A) (xs : List A) → ((i : ℕ) → i < length xs → p (get_or xs i d) ≡ false) → any p xs ≡ false
any_none p d [] h = refl
any_none p d (x ∷ xs) h = rw (h 0 (omega arith), any_none p d xs (λ i k. h (suc i) (omega arith)))

pub collect_same : {A B : Type 0} (f g : A → List B) (d : A) (xs : List A)
    → ((i : ℕ) → i < length xs → f (get_or xs i d) ≡ g (get_or xs i d)) → collect f xs ≡ collect g xs
collect_same f g d [] h = refl
collect_same f g d (x ∷ xs) h = rw (h 0 (omega arith), collect_same f g d xs (λ i k. h (suc i) (omega arith)))

-- two lists of which the test says the same place by place, past their ends too
pub any_alike : {A : Type 0} (p : A → Bool) (d : A) → p d ≡ false → (xs ys : List A) → ((i : ℕ) → p (get_or xs i d) ≡ p (get_or ys i d))
    → any p xs ≡ any p ys
any_alike p d z [] [] h = refl
any_alike p d z [] (y ∷ ys) h = rw (← h 0, z, ← any_alike p d z [] ys (λ i. h (suc i)))
any_alike p d z (x ∷ xs) [] h = rw (h 0, z, any_alike p d z xs [] (λ i. h (suc i)))
any_alike p d z (x ∷ xs) (y ∷ ys) h = rw (h 0, any_alike p d z xs ys (λ i. h (suc i)))

-- ---- the selected elements

pub select_length : {A : Type 0} (p : A → Bool) (xs : List A) → length (select p xs) ≤ length xs
select_length p [] = omega arith
select_length p (x ∷ xs) = go (p x) (select_length p xs)
  where
    go : (t : Bool) → length (select p xs) ≤ length xs → length (cond t (x ∷ select p xs) (select p xs)) ≤ length (x ∷ xs)
    go true h = omega arith
    go false h = omega arith

-- what holds of every element holds of every selected one
pub select_at : {A : Type 0} (P : A → Type 0) (p : A → Bool) (d : A) (xs : List A) → ((i : ℕ) → i < length xs → P (get_or xs i d))
    → (i : ℕ) → i < length (select p xs) → P (get_or (select p xs) i d)
select_at P p d [] h i k = absurd (omega arith)
select_at {A} P p d (x ∷ xs) h i k = go (p x) (select_at P p d xs (λ j l. h (suc j) (omega arith))) i k
  where
    every : List A → Type 0
    every ys = (j : ℕ) → j < length ys → P (get_or ys j d)

    go : (t : Bool) → every (select p xs) → every (cond t (x ∷ select p xs) (select p xs))
    go true r zero l = h 0 (omega arith)
    go true r (suc j) l = r j (omega arith)
    go false r j l = r j l

-- ---- every element, part by part

-- every element of the list is so
abbrev pub Each : {A : Type 0} → (A → Type 0) → List A → Type 0
Each P [] = Unit
Each P (x ∷ xs) = P x × Each P xs

module _ {A : Type 0} (P : A → Type 0) where
  pub each_append : (xs ys : List A) → Each P xs → Each P ys → Each P (xs ++ ys)
  each_append [] ys h g = g
  each_append (x ∷ xs) ys h g = (h.0, each_append xs ys h.1 g)

  pub each_when : (t : Bool) (a : A) → (t ≡ true → P a) → Each P (when t a)
  each_when true a h = (h refl, tt)
  each_when false a h = tt

  pub each_cond : (t : Bool) (xs : List A) → (t ≡ true → Each P xs) → Each P (cond t xs [])
  each_cond true xs h = h refl
  each_cond false xs h = tt

  pub each_collect : {B : Type 0} (f : B → List A) (d : B) (xs : List B) → ((i : ℕ) → i < length xs → Each P (f (get_or xs i d)))
      → Each P (collect f xs)
  each_collect f d [] h = tt
  each_collect f d (x ∷ xs) h = each_append (f x) (collect f xs) (h 0 (omega arith)) (each_collect f d xs (λ i k. h (suc i) (omega arith)))

  pub each_weaken : (Q : A → Type 0) → ((a : A) → Q a → P a) → (xs : List A) → Each Q xs → Each P xs
  each_weaken Q k [] h = tt
  each_weaken Q k (x ∷ xs) h = (k x h.0, each_weaken Q k xs h.1)

  pub each_map : {B : Type 0} (Q : B → Type 0) (f : B → A) → ((b : B) → Q b → P (f b)) → (xs : List B) → Each Q xs → Each P (map f xs)
  each_map Q f k [] h = tt
  each_map Q f k (x ∷ xs) h = (k x h.0, each_map Q f k xs h.1)
