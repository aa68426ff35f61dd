-- The writes by places are the model's ordered writes. Assumes nothing.
use mathlib.Core.Path.{◌≡◌, refl, sym, ap, ap₂, ◌∙◌}
use mathlib.Core.List.{List, [], ◌∷◌, ◌++◌, append_assoc, append-nil}
use Prim.Native.Nat.{ℕ, suc, ◌+◌, ◌-◌, ◌≤◌, ◌<◌}
use native.Mathlib.Omega.{arith}
use lib.ListN.{length, get_or}
use borrow.Author.Tests.{lt-ltb, le-ltb, eq-eqb, ne_eqb}
use Rattle.transaction.specs.declared.Edit.{Edit}
use Rattle.model.specs.Basic.{collect}
use Rattle.model.specs.Store.{Store, no_row}
use Rattle.model.specs.Due.{Stamp}
use Rattle.model.specs.Writes.{Write, w1, w2, w3, w4, ordered_writes, writes}
use Rattle.writes.specs.Next.{rows_of, mode_of, the_row, loose_of, first_at, second_at, places, ahead}

-- a stretch of places that are the rows' turns
ahead_rows : (stamp : Stamp) (s : Store) (f : Edit → List Write) (xs : List Edit) (k m : ℕ)
    → ((j : ℕ) → j < length xs → first_at stamp s (k + j) ++ second_at s (k + j) ≡ f (get_or xs j no_row))
    → ahead stamp s k (length xs + m) ≡ collect f xs ++ ahead stamp s (k + length xs) m
unfolding ahead
ahead_rows stamp s f [] k m h = let e : k + 0 ≡ k = omega arith in let z : 0 + m ≡ m = omega arith in rw (e, z) refl
ahead_rows stamp s f (x ∷ xs) k m h =
    let z : k + 0 ≡ k = omega arith in
    let e : first_at stamp s k ++ second_at s k ≡ f x = rw z at (h 0 (omega arith)) in
    let t : suc k + length xs ≡ k + suc (length xs) = omega arith in
    let i : ahead stamp s (suc k) (length xs + m) ≡ collect f xs ++ ahead stamp s (suc k + length xs) m =
    ahead_rows stamp s f xs (suc k) m (λ j l. let q : suc k + j ≡ k + suc j = omega arith in rw q (h (suc j) (omega arith))) in
    let u : suc (length xs) + m ≡ suc (length xs + m) = omega arith in
    ap (λ (j : ℕ). ahead stamp s k j) u
    ∙ sym (append_assoc (first_at stamp s k) (second_at s k) (ahead stamp s (suc k) (length xs + m)))
    ∙ ap₂ ◌++◌ e (i ∙ ap (λ (j : ℕ). collect f xs ++ ahead stamp s j m) t)
    ∙ sym (append_assoc (f x) (collect f xs) (ahead stamp s (k + suc (length xs)) m))

module _ (stamp : Stamp) (s : Store) where
  at_1 : (j : ℕ) → j < length (rows_of s) → first_at stamp s (0 + j) ++ second_at s (0 + j) ≡ w1 stamp s (mode_of s) (the_row s j)
  unfolding first_at second_at w1 loose_of
  at_1 j l = let z : 0 + j ≡ j = omega arith in rw (z, lt-ltb j (length (rows_of s)) l) refl

  at_2 : (j : ℕ) → j < length (rows_of s) → first_at stamp s (length (rows_of s) + j) ++ second_at s (length (rows_of s) + j) ≡ w2 s (the_row s j)
  unfolding first_at second_at
  at_2 j l =
      let z : length (rows_of s) + j - length (rows_of s) ≡ j = omega arith in
      let q : length (rows_of s) ≤ length (rows_of s) + j = omega arith in
      rw (le-ltb (length (rows_of s) + j) (length (rows_of s)) q, z, lt-ltb j (length (rows_of s)) l) (append-nil (w2 s (the_row s j)))

  at_3 : first_at stamp s (length (rows_of s) + length (rows_of s)) ++ second_at s (length (rows_of s) + length (rows_of s)) ≡ w3 s (mode_of s) (rows_of s)
  unfolding first_at second_at
  at_3 =
      let z : length (rows_of s) + length (rows_of s) - length (rows_of s) ≡ length (rows_of s) = omega arith in
      let q : length (rows_of s) ≤ length (rows_of s) + length (rows_of s) = omega arith in
      let p : length (rows_of s) ≤ length (rows_of s) = omega arith in
      rw (le-ltb (length (rows_of s) + length (rows_of s)) (length (rows_of s)) q, z, le-ltb (length (rows_of s)) (length (rows_of s)) p, eq-eqb (length (rows_of s)) (length (rows_of s)) refl)
      (append-nil (w3 s (mode_of s) (rows_of s)))

  at_4 : (j : ℕ) → j < length (rows_of s)
      → first_at stamp s (suc (length (rows_of s) + length (rows_of s)) + j) ++ second_at s (suc (length (rows_of s) + length (rows_of s)) + j) ≡ w4 s (mode_of s) (the_row s j)
  unfolding first_at second_at
  at_4 j l =
      let n : ℕ = length (rows_of s) in
      let k : ℕ = suc (length (rows_of s) + length (rows_of s)) + j in
      let z : k - length (rows_of s) - length (rows_of s) - 1 ≡ j = omega arith in
      let q : length (rows_of s) ≤ k = omega arith in
      let p : length (rows_of s) ≤ k - length (rows_of s) = omega arith in
      let d : k - length (rows_of s) ≡ length (rows_of s) → ⊥ = λ e. absurd (omega arith) in
      rw (le-ltb k (length (rows_of s)) q, le-ltb (k - length (rows_of s)) (length (rows_of s)) p, ne_eqb (k - length (rows_of s)) (length (rows_of s)) d, z)
      (append-nil (w4 s (mode_of s) (the_row s j)))

  pub whole : ahead stamp s 0 (places s) ≡ writes stamp s
  unfolding ordered_writes ahead
  whole =
      let n : ℕ = length (rows_of s) in
      let a : places s ≡ n + (n + suc (n + 0)) = omega arith in
      let b : n + 0 ≡ n = omega arith in
      let c : 0 + n ≡ n = omega arith in
      ap (λ (m : ℕ). ahead stamp s 0 m) a
      ∙ ahead_rows stamp s (w1 stamp s (mode_of s)) (rows_of s) 0 (n + suc (n + 0)) at_1
      ∙ ap (λ (k : ℕ). collect (w1 stamp s (mode_of s)) (rows_of s) ++ ahead stamp s k (n + suc (n + 0))) c
      ∙ ap (λ (ws : List Write). collect (w1 stamp s (mode_of s)) (rows_of s) ++ ws)
      (ahead_rows stamp s (w2 s) (rows_of s) n (suc (n + 0)) at_2
      ∙ ap (λ (ws : List Write). collect (w2 s) (rows_of s) ++ ws)
      (sym (append_assoc (first_at stamp s (n + n)) (second_at s (n + n)) (ahead stamp s (suc (n + n)) (n + 0)))
      ∙ ap₂ ◌++◌ at_3
      (ahead_rows stamp s (w4 s (mode_of s)) (rows_of s) (suc (n + n)) 0 at_4 ∙ append-nil (collect (w4 s (mode_of s)) (rows_of s)))))
