-- A place by cases: a row's turn in W1, in W2 or in W4, or the packed write. Assumes nothing.
use mathlib.Core.Path.{◌≡◌, refl}
use mathlib.Core.Bool.{Bool, true, false, cond}
use mathlib.Core.List.{List, map}
use Prim.Native.Nat.{ℕ, ◌+◌, ◌-◌, ◌≤◌, ◌<◌}
use native.Mathlib.Omega.{arith}
use lib.ListN.{length}
use lib.Dec.{ltb, eqb}
use borrow.Author.Tests.{eqb-true, eqb-false, ltb-true, ltb-false}
use Rattle.model.specs.Store.{Store}
use Rattle.model.specs.Due.{Stamp, due_line}
use Rattle.model.specs.Writes.{Write, w2, w3, w4}
use Rattle.model.specs.Writes.Write.{append_line}
use Rattle.writes.specs.Next.{rows_of, mode_of, the_row, first_at, places}

-- what holds of two things in each case holds of those that the place k among n rows has
pub by_place : {A : Type 0} (R : A → A → Type 0) (n k : ℕ) (f₁ g₁ : A) (f₂ g₂ : ℕ → A) (f₃ g₃ : A) (f₄ g₄ : ℕ → A) → k < n + n + n + 1
    → (k < n → R f₁ g₁)
    → ((j : ℕ) → j < n → k ≡ n + j → R (f₂ j) (g₂ j))
    → (k ≡ n + n → R f₃ g₃)
    → ((j : ℕ) → j < n → k ≡ n + n + 1 + j → R (f₄ j) (g₄ j))
    → R (cond (ltb k n) f₁ (cond (ltb (k - n) n) (f₂ (k - n)) (cond (eqb (k - n) n) f₃ (f₄ (k - n - n - 1)))))
    (cond (ltb k n) g₁ (cond (ltb (k - n) n) (g₂ (k - n)) (cond (eqb (k - n) n) g₃ (g₄ (k - n - n - 1)))))
by_place R n k f₁ g₁ f₂ g₂ f₃ g₃ f₄ g₄ h a b c d = go (ltb k n) refl
  where
    last : (t u : Bool) → ltb (k - n) n ≡ t → eqb (k - n) n ≡ u → n ≤ k
        → R (cond t (f₂ (k - n)) (cond u f₃ (f₄ (k - n - n - 1)))) (cond t (g₂ (k - n)) (cond u g₃ (g₄ (k - n - n - 1))))
    last true u p q l = b (k - n) (ltb-true (k - n) n p) (omega arith)
    last false true p q l = let e : k - n ≡ n = eqb-true (k - n) n q in c (omega arith)
    last false false p q l =
        let e : n ≤ k - n = ltb-false (k - n) n p in
        let f : k - n ≡ n → ⊥ = eqb-false (k - n) n q in
        d (k - n - n - 1) (omega arith) (omega arith)

    go : (t : Bool) → ltb k n ≡ t
        → R (cond t f₁ (cond (ltb (k - n) n) (f₂ (k - n)) (cond (eqb (k - n) n) f₃ (f₄ (k - n - n - 1)))))
        (cond t g₁ (cond (ltb (k - n) n) (g₂ (k - n)) (cond (eqb (k - n) n) g₃ (g₄ (k - n - n - 1)))))
    go true p = a (ltb-true k n p)
    go false p = last (ltb (k - n) n) (eqb (k - n) n) refl refl (ltb-false k n p)

-- so of what a place writes first
pub first_by_lem : (stamp : Stamp) (s : Store) (k : ℕ) (P : List Write → Type 0) → k < places s
    → (k < length (rows_of s) → P (map append_line (due_line stamp s (the_row s k))))
    → ((j : ℕ) → j < length (rows_of s) → k ≡ length (rows_of s) + j → P (w2 s (the_row s j)))
    → (k ≡ length (rows_of s) + length (rows_of s) → P (w3 s (mode_of s) (rows_of s)))
    → ((j : ℕ) → j < length (rows_of s) → k ≡ length (rows_of s) + length (rows_of s) + 1 + j → P (w4 s (mode_of s) (the_row s j)))
    → P (first_at stamp s k)
unfolding first_at
first_by_lem stamp s k P h a b c d =
    by_place (λ us vs. P us) (length (rows_of s)) k (map append_line (due_line stamp s (the_row s k))) (map append_line (due_line stamp s (the_row s k)))
    (λ j. w2 s (the_row s j)) (λ j. w2 s (the_row s j)) (w3 s (mode_of s) (rows_of s)) (w3 s (mode_of s) (rows_of s))
    (λ j. w4 s (mode_of s) (the_row s j)) (λ j. w4 s (mode_of s) (the_row s j)) h a b c d
