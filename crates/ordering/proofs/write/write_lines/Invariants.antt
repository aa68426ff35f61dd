use Prim.Native.Nat.{◌-◌}
use Rattle.region.specs.Region.{view}
use Rattle.ordering.proofs.Lines.{Written}
use Rattle.ordering.proofs.write.write_lines.Given as goal

-- `write_lines` meets its contract: the lines of the first i stand in the buffer. Assumes nothing.
abbrev pub invariant-loop-i : goal.invariant-loop-i
invariant-loop-i l = Written (view l.region) l.numbers l.held l.initial.buffer l.buffer l.i l.at
