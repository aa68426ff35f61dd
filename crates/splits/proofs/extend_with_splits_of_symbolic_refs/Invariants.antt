use Prim.Native.Nat.{◌-◌}
use Rattle.splits.proofs.Splits.{Ahead}
use Rattle.splits.proofs.extend_with_splits_of_symbolic_refs.Given as goal

abbrev pub invariant-loop : goal.invariant-loop
invariant-loop l = Ahead l.initial.region l.initial.first 3 l.region l.first (3 - l.counter)
