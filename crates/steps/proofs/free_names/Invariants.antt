use mathlib.Core.Path.{◌≡◌}
use Prim.Native.Nat.{◌≤◌}
use lib.ListN.{length}
use Rattle.region.specs.Region.{view, Became}
use Rattle.steps.specs.Steps.{free_names}
use Rattle.steps.proofs.free_names.Given as goal

-- `free_names` meets its contract: of the first n names no lock is ours. Assumes nothing.
abbrev pub invariant-loop-n : goal.invariant-loop-n
invariant-loop-n l = (l.n ≤ l.count) × (length l.region ≡ length l.initial.region) × Became l.region (free_names l.n (view l.initial.region))
