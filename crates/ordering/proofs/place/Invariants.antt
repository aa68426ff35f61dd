use Prim.Native.Nat.{◌-◌}
use Rattle.region.specs.Region.{view}
use Rattle.ordering.proofs.Places.{Narrowed}
use Rattle.ordering.proofs.place.Given as goal

-- `place` meets its contract: it lies from `low` to `high`, and each turn halves what lies between. Assumes nothing.
abbrev pub invariant-loop-low : goal.invariant-loop-low
invariant-loop-low l = Narrowed (view l.region) l.numbers l.held l.name.0 l.low l.high

abbrev pub decreases-loop-low : goal.decreases-loop-low
decreases-loop-low l = l.high - l.low
