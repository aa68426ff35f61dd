use mathlib.Core.Path.{◌≡◌}
use lib.ListN.{drop}
use Rattle.region.specs.Region.{view}
use Rattle.model.specs.Basic.{any}
use Rattle.model.specs.Store.{rows_in}
use Rattle.kept.specs.Counting.{counting}
use Rattle.kept.proofs.any_counting.Given as goal

abbrev pub invariant-loop-i : goal.invariant-loop-i
invariant-loop-i l = any (counting l.update (view l.region)) (drop l.i (rows_in (view l.region).prepared)) ≡ any (counting l.update (view l.region)) (rows_in (view l.region).prepared)
