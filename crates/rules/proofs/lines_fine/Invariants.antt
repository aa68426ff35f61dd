use mathlib.Core.Bool.{true}
use mathlib.Core.Path.{◌≡◌}
use Rattle.model.specs.Basic.{below}
use Rattle.region.specs.Region.{view}
use Rattle.rules.specs.Tests.{line_test}
use Rattle.rules.proofs.lines_fine.Given as goal

abbrev pub invariant-loop-i : goal.invariant-loop-i
invariant-loop-i l = below l.i (line_test (view l.region)) ≡ true
