use Prim.Native.Nat.{ℕ, ◌+◌, ◌<◌, ◌≤◌}
use mathlib.Core.Path.{◌≡◌, refl, sym, ap, ◌∙◌}
use mathlib.Core.List.{List, [], ◌∷◌, ◌++◌}
use native.Mathlib.Numerals.{add-one}
use native.Mathlib.Omega.{arith}
use lib.ListN.{length, take, get_or, set, length-set}
use lib.Seq.{take-suc, take-suc-set, take_all}
use Rattle.word.proofs.copy.Goals as goal

module _ (s t : List ℕ) (i n : ℕ) (l : length s ≡ n) (m : n ≡ length t) (e : take i s ≡ take i t) where
  turn : i < length s → take (i + 1) (set s i (get_or t i 0)) ≡ take (i + 1) t
  turn h =
      rw add-one
      (take-suc-set s i (get_or t i 0) h ∙ ap (λ (p : List ℕ). p ++ get_or t i 0 ∷ []) e ∙ sym (take-suc t i 0 (omega arith)))

  end : length s ≤ i → s ≡ t
  end h = sym (take_all i s h) ∙ e ∙ take_all i t (omega arith)

pub loop-i-init : goal.loop-i-init
loop-i-init c = (omega arith, refl, refl)

pub loop-i-preserved : goal.loop-i-preserved
loop-i-preserved c = (rw length-set (omega arith), rw length-set c.loop-i.invariant.1, turn _ _ _ _ c.loop-i.invariant.1 c.requires c.loop-i.invariant.2 (omega arith))

pub shape_of-dst : goal.shape_of-dst
shape_of-dst c = c.loop-i.invariant.1

pub returns : goal.returns
returns c = end _ _ _ _ c.loop-i.invariant.1 c.requires c.loop-i.invariant.2 (omega arith)
