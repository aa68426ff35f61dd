use mathlib.Core.Bool.{true}
use Prim.Native.Nat.{◌-◌}
use lib.ListN.{replicate}
use Rattle.splits.proofs.Table.{Far}
use Rattle.splits.proofs.split_round.Given as goal

abbrev pub invariant-loop-i : goal.invariant-loop-i
invariant-loop-i l = Far (replicate (l.end - l.first) true) (l.end - l.first) l.first l.initial.region l.i l.region
