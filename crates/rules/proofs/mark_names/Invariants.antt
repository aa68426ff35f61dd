use Prim.Native.Nat.{◌-◌}
use Rattle.region.specs.Region.{view}
use Rattle.rules.proofs.Marks.{Marking}
use Rattle.rules.proofs.mark_names.Given as goal

abbrev pub invariant-loop-n : goal.invariant-loop-n
invariant-loop-n l = Marking (view l.region) l.n l.marks
