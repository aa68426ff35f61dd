use mathlib.Core.Path.{◌≡◌}
use Rattle.model.specs.Store.{rows_in}
use Rattle.region.specs.Region.{view}
use Rattle.splits.specs.Round.{leads_on}
use Rattle.splits.proofs.leads_on.Given as goal

abbrev pub invariant-loop-i : goal.invariant-loop-i
invariant-loop-i l = leads_on (view l.region) l.i (rows_in (view l.region).prepared) ≡ leads_on (view l.region) l.first (rows_in (view l.region).prepared)
