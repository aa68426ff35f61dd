use Prim.Native.Nat.{ℕ, zero, suc, max, ◌+◌, ◌<◌, ◌≤◌}
use mathlib.Core.Path.{◌≡◌, refl, sym, ap, ap₂, ◌∙◌}
use mathlib.Core.Bool.{Bool, false, ◌&&◌, and-true}
use mathlib.Core.List.{List, [], ◌∷◌}
use native.Mathlib.Numerals.{add-one}
use native.Mathlib.Omega.{arith}
use lib.ListN.{length, take, get_or}
use lib.Seq.{take_all, take-suc}
use lib.Dec.{eqb}
use borrow.Author.Tests.{ne_eqb}
use Rattle.word.specs.Codec.{zeros}
use Rattle.word.proofs.Slots.{zeros_append}
use Rattle.word.proofs.all_zero.Goals as goal

-- the greater of two is 0 exactly where both are
greater : (a b : ℕ) → eqb (max a b) 0 ≡ (eqb a 0 && eqb b 0)
greater zero b = let e : max 0 b ≡ b = omega arith in rw e refl
greater (suc a) b =
    let p : eqb (suc a) 0 ≡ false = ne_eqb _ _ (λ e. omega arith) in
    let q : eqb (max (suc a) b) 0 ≡ false = ne_eqb _ _ (λ e. omega arith) in
    rw (p, q) refl

one : (x : ℕ) → zeros (x ∷ []) ≡ eqb x 0
unfolding zeros
one x = and-true (eqb x 0)

module _ (s : List ℕ) (i most : ℕ) (e : eqb most 0 ≡ zeros (take i s)) where
  turn : (m : ℕ) → i < length s → m ≡ max most (get_or s i 0) → eqb m 0 ≡ zeros (take (i + 1) s)
  turn m h p =
      ap (λ (n : ℕ). eqb n 0) p
      ∙ greater most (get_or s i 0)
      ∙ ap₂ (λ (a b : Bool). a && b) e (sym (one (get_or s i 0)))
      ∙ sym (rw add-one (ap zeros (take-suc s i 0 h) ∙ zeros_append (take i s) (get_or s i 0 ∷ [])))

  end : length s ≤ i → eqb most 0 ≡ zeros s
  end h = e ∙ ap zeros (take_all i s h)

pub loop-byte-init : goal.loop-byte-init
unfolding zeros
loop-byte-init c = (omega arith, refl)

pub loop-byte-preserved : goal.loop-byte-preserved
loop-byte-preserved c = (omega arith, search turn)

pub returns : goal.returns
returns c = search end
