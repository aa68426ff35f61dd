use Prim.Native.Nat.{ℕ, zero, suc, ◌≤◌, ◌<◌, ◌-◌, ◌/◌, ◌%◌}
use mathlib.Core.Path.{◌≡◌, refl, ap, ◌∙◌}
use mathlib.Core.List.{List, ◌∷◌}
use native.Mathlib.Omega.{arith}
use lib.ListN.{length, drop, set, length-set}
use lib.Seq.{drop-cons, drop-set-lt, get_or-set_same, drop-length}
use Rattle.word.specs.Be.{be, be_on}
use Rattle.word.proofs.put.Goals as goal

turn : (s r : List ℕ) (x i : ℕ) → 0 < i → i ≤ length s → be_on i x (drop i s) ≡ r
    → be_on (i - 1) (x / 256) (drop (i - 1) (set s (i - 1) (x % 256))) ≡ r
unfolding be_on
turn s r x zero z h e = absurd (omega arith)
turn s r x (suc j) z h e =
    let k : suc j - 1 ≡ j = omega arith in
    let d : drop j (set s j (x % 256)) ≡ x % 256 ∷ drop (suc j) s =
    drop-cons (set s j (x % 256)) j 0 (rw length-set h)
    ∙ rw (get_or-set_same s j (x % 256) 0 h, drop-set-lt (suc j) s j (x % 256) (omega arith)) in
    rw k (ap (be_on j (x / 256)) d ∙ e)

pub loop-i-init : goal.loop-i-init
unfolding be
loop-i-init c = (omega arith, refl, rw drop-length)

pub loop-i-preserved : goal.loop-i-preserved
loop-i-preserved c = (rw length-set (omega arith), rw length-set c.loop-i.invariant.1, search turn)

pub shape_of-s : goal.shape_of-s
shape_of-s c = c.loop-i.invariant.1

pub returns : goal.returns
unfolding be_on
returns c =
    let l = c.loop-i in
    let e : l.i ≡ 0 = omega arith in
    rw e at l.invariant.2
