use Prim.Native.Nat.{ℕ, zero, suc, ◌-◌, ◌≤◌}
use mathlib.Core.Path.{◌≡◌, refl, sym, ap, ap₂, ◌∙◌}
use mathlib.Core.Bool.{Bool, true, false}
use mathlib.Core.List.{List, ◌∷◌}
use native.Mathlib.Omega.{arith}
use lib.ListN.{length, drop, get_or}
use lib.Seq.{drop-cons, drop-length}
use Rattle.word.specs.Tests.{same_list}
use Rattle.word.proofs.Tests.{same_list_true, same_list_refl}
use Rattle.word.proofs.same.Goals as goal

module _ (a b : List ℕ) where
  -- whatever tells the two apart, their length or the byte at a place
  apart : (f : List ℕ → ℕ) → (f a ≡ f b → ⊥) → false ≡ same_list a b
  apart f h = go (same_list a b) refl
    where
      go : (t : Bool) → same_list a b ≡ t → false ≡ same_list a b
      go true e = absurd (h (ap f (same_list_true a b e)))
      go false e = sym e

  longer : (length a ≡ length b → ⊥) → false ≡ same_list a b
  longer = apart length

  start : length a ≡ length b → drop (length a) a ≡ drop (length a) b
  start l = drop-length a ∙ sym (rw (sym l) at (drop-length b))

  -- the bound is what shows the place to a search
  stop : (i : ℕ) → i ≤ length a → (get_or a (i - 1) 0 ≡ get_or b (i - 1) 0 → ⊥) → false ≡ same_list a b
  stop i h = apart (λ s. get_or s (i - 1) 0)

  turn : (i : ℕ) → length a ≡ length b → i ≤ length a → drop i a ≡ drop i b → get_or a (i - 1) 0 ≡ get_or b (i - 1) 0
      → drop (i - 1) a ≡ drop (i - 1) b
  turn zero l h e p = e
  turn (suc j) l h e p =
      let k : suc j - 1 ≡ j = omega arith in
      let q : get_or a j 0 ≡ get_or b j 0 = rw k at p in
      rw k (drop-cons a j 0 h ∙ ap₂ (λ (n : ℕ) (s : List ℕ). n ∷ s) q e ∙ sym (drop-cons b j 0 (omega arith)))

  end : (i : ℕ) → i ≤ 0 → drop i a ≡ drop i b → true ≡ same_list a b
  end i h e =
      let z : i ≡ 0 = omega arith in
      sym (same_list_refl a) ∙ ap (same_list a) (rw z at e)

pub returns-then-a-b : goal.returns-then-a-b
returns-then-a-b c = search longer

pub loop-i-init : goal.loop-i-init
loop-i-init c = (omega arith, search start)

pub returns-then-a-i : goal.returns-then-a-i
returns-then-a-i c = search stop

pub loop-i-preserved : goal.loop-i-preserved
loop-i-preserved c = (omega arith, search turn)

pub returns : goal.returns
returns c = search end
