use Prim.Native.Nat.{◌-◌}
use Rattle.region.specs.Region.{view}
use Rattle.ordering.proofs.Lines.{Measured}
use Rattle.ordering.proofs.write.text_length.Given as goal

-- `text_length` meets its contract: the total is that of the first i. Assumes nothing.
abbrev pub invariant-loop-i : goal.invariant-loop-i
invariant-loop-i l = Measured (view l.region) l.numbers l.held l.i l.total
