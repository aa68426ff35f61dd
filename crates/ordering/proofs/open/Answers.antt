use Prim.Native.Nat.{◌+◌, ◌-◌}
use mathlib.Core.Path.{◌≡◌, refl}
use native.Mathlib.Omega.{arith}
use lib.ListN.{length-set}
use borrow.Author.Rules.{rules}
use Rattle.ordering.proofs.Opens.{open_start, open_more, open_end}
use Rattle.ordering.proofs.open.Goals as goal

pub loop-i-init : goal.loop-i-init
loop-i-init c = (search rules, omega arith, refl, search open_start)

pub loop-i-preserved : goal.loop-i-preserved
loop-i-preserved c =
    let k : c.loop-i.i - 1 + 1 ≡ c.loop-i.i = omega arith in
    (omega arith, omega arith, rw length-set c.loop-i.invariant.2, rw k (open_more _ _ (search rules) _ _ (omega arith) (omega arith) c.loop-i.invariant.3))

pub shape_of-numbers : goal.shape_of-numbers
shape_of-numbers c = c.loop-i.invariant.2

pub returns : goal.returns
returns c = search open_end
