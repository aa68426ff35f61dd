use mathlib.Core.Path.{◌≡◌}
use native.Mathlib.Omega.{arith}
use lib.ListN.{length-set}
use Rattle.model.specs.PackedText.{digits_on}
use Rattle.texts.proofs.Digits.{put_turn}
use Rattle.texts.proofs.put_digits.Goals as goal

pub loop-i-preserved : goal.loop-i-preserved
loop-i-preserved c = (rw length-set (omega arith), rw length-set c.loop-i.invariant.1, search put_turn)

pub returns : goal.returns
unfolding digits_on
returns c =
    let l = c.loop-i in
    let e : l.i ≡ 0 = omega arith in
    rw e at l.invariant.2
