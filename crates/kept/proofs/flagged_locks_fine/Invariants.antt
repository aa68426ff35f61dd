use mathlib.Core.Path.{◌≡◌}
use mathlib.Core.Bool.{true}
use Rattle.region.specs.Region.{view}
use Rattle.model.specs.Basic.{below}
use Rattle.model.specs.Fine.{fine_lock}
use Rattle.kept.proofs.flagged_locks_fine.Given as goal

abbrev pub invariant-loop-n : goal.invariant-loop-n
invariant-loop-n l = below l.n (fine_lock (view l.region)) ≡ true
