use mathlib.Core.Bool.{true}
use mathlib.Core.Path.{◌≡◌}
use Rattle.model.specs.Basic.{below}
use Rattle.region.specs.Region.{view}
use Rattle.rules.specs.Tests.{name_test}
use Rattle.rules.proofs.marked_fine.Given as goal

abbrev pub invariant-loop-n : goal.invariant-loop-n
invariant-loop-n l = below l.n (name_test (view l.region)) ≡ true
