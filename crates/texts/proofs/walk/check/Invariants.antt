use lib.ListN.{length}
use Prim.Native.Nat.{◌-◌}
use Rattle.texts.specs.Walk.{At}
use Rattle.texts.proofs.walk.check.Given as goal

abbrev pub invariant-loop-ending : goal.invariant-loop-ending
invariant-loop-ending l = At l.text l.place

abbrev pub decreases-loop-ending : goal.decreases-loop-ending
decreases-loop-ending l = length l.text - l.place.at
