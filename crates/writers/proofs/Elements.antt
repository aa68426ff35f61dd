-- What holds of each element of a list holds with one set, and with one more. Assumes nothing.
use mathlib.Core.List.{List, [], ◌∷◌, ◌++◌}
use Prim.Native.Nat.{ℕ, zero, suc, ◌<◌}
use native.Mathlib.Omega.{arith}
use lib.ListN.{length, get_or, set}
use Rattle.model.proofs.All.{at_append}

module _ {A : Type 0} (Fits : A → Type 0) where
  pub each_set : (xs : List A) (d : A) (i : ℕ) (x : A) → ((k : ℕ) → k < length xs → Fits (get_or xs k d)) → Fits x
      → (k : ℕ) → k < length (set xs i x) → Fits (get_or (set xs i x) k d)
  each_set [] d i x f g k h = f k h
  each_set (y ∷ xs) d zero x f g zero h = g
  each_set (y ∷ xs) d zero x f g (suc k) h = f (suc k) h
  each_set (y ∷ xs) d (suc i) x f g zero h = f 0 (omega arith)
  each_set (y ∷ xs) d (suc i) x f g (suc k) h = each_set xs d i x (λ k l. f (suc k) (omega arith)) g k (omega arith)

  pub each_more : (xs : List A) (d x : A) → ((k : ℕ) → k < length xs → Fits (get_or xs k d)) → Fits x
      → (k : ℕ) → k < length (xs ++ (x ∷ [])) → Fits (get_or (xs ++ (x ∷ [])) k d)
  each_more xs d x f g = at_append (λ (i : ℕ) (e : A). Fits e) xs (x ∷ []) d f last
    where
      last : (k : ℕ) → k < 1 → Fits (get_or (x ∷ []) k d)
      last zero h = g
      last (suc k) h = absurd (omega arith)
