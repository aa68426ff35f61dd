use mathlib.Core.List.{map}
use mathlib.Core.Path.{◌≡◌}
use lib.ListN.{drop}
use Rattle.target.specs.Target.{same_name}
use Rattle.model.specs.Rows.{name_in}
use Rattle.model.specs.Basic.{any}
use Rattle.model.specs.Store.{rows_in}
use Rattle.region.specs.Region.{view}
use Rattle.splits.proofs.stands_again.Given as goal

abbrev pub invariant-loop-j : goal.invariant-loop-j
invariant-loop-j l = any (same_name l.name) (map name_in (drop l.j (rows_in (view l.region).prepared))) ≡ any (same_name l.name) (map name_in (drop l.i (rows_in (view l.region).prepared)))
