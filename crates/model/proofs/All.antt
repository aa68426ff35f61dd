-- What holds of every element of a list. Assumes nothing.
use mathlib.Core.Path.{◌≡◌, refl, sym, subst}
use mathlib.Core.Bool.{Bool, true, false}
use mathlib.Core.List.{List, [], ◌∷◌, ◌++◌, map}
use Prim.Native.Nat.{ℕ, zero, suc, ◌+◌, ◌-◌, ◌≤◌, ◌<◌}
use native.Mathlib.Omega.{arith}
use lib.ListN.{length, get_or, length-append, get_or-append}
use lib.Seq.{get_or-append-add}
use lib.Dec.{ltb}
use borrow.Author.Tests.{ltb-true, ltb-false}

pub data All {A : Type 0} (P : A → Type 0) : List A → Type 0 where
  done : All P []
  also : {x : A} {xs : List A} → P x → All P xs → All P (x ∷ xs)

module _ {A : Type 0} {P : A → Type 0} where
  pub all_head : {x : A} {xs : List A} → All P (x ∷ xs) → P x
  all_head (also p ps) = p

  pub all_tail : {x : A} {xs : List A} → All P (x ∷ xs) → All P xs
  all_tail (also p ps) = ps

  pub all_front : (xs ys : List A) → All P (xs ++ ys) → All P xs
  all_front [] ys h = done
  all_front (x ∷ xs) ys h = also (all_head h) (all_front xs ys (all_tail h))

  pub all_back : (xs ys : List A) → All P (xs ++ ys) → All P ys
  all_back [] ys h = h
  all_back (x ∷ xs) ys h = all_back xs ys (all_tail h)

  pub all_append : {xs ys : List A} → All P xs → All P ys → All P (xs ++ ys)
  all_append done q = q
  all_append (also p ps) q = also p (all_append ps q)

  pub all_at : {xs : List A} → All P xs → (i : ℕ) (d : A) → i < length xs → P (get_or xs i d)
  all_at done i d h = absurd (omega arith)
  all_at (also p ps) zero d h = p
  all_at (also p ps) (suc i) d h = all_at ps i d (omega arith)

pub all_map : {A B : Type 0} {P : A → Type 0} {Q : B → Type 0} (f : A → B)
    → ((a : A) → P a → Q (f a)) → {xs : List A} → All P xs → All Q (map f xs)
all_map f g done = done
all_map f g (also {x} p ps) = also (g x p) (all_map f g ps)

pub all_so : {A : Type 0} {P Q : A → Type 0} → ((a : A) → P a → Q a) → {xs : List A} → All P xs → All Q xs
all_so g done = done
all_so g (also {x} p ps) = also (g x p) (all_so g ps)

-- ---- by place

-- what holds at each place of two lists holds at each place of the first and then the second
pub at_append : {A : Type 0} (P : ℕ → A → Type 0) (xs ys : List A) (d : A)
    → ((i : ℕ) → i < length xs → P i (get_or xs i d))
    → ((k : ℕ) → k < length ys → P (length xs + k) (get_or ys k d))
    → (i : ℕ) → i < length (xs ++ ys) → P i (get_or (xs ++ ys) i d)
at_append P xs ys d f g i h = go (ltb i (length xs)) refl
  where
    go : (t : Bool) → ltb i (length xs) ≡ t → P i (get_or (xs ++ ys) i d)
    go true e =
        let l : i < length xs = ltb-true i (length xs) e in
        subst (P i) (sym (get_or-append xs ys d i l)) (f i l)
    go false e =
        let l : length xs ≤ i = ltb-false i (length xs) e in
        let k : ℕ = i - length xs in
        let q : length xs + k ≡ i = omega arith in
        let m : k < length ys = omega (arith, length-append xs ys) in
        subst (λ (j : ℕ). P j (get_or (xs ++ ys) j d)) q (subst (P (length xs + k)) (sym (get_or-append-add xs ys k d)) (g k m))
