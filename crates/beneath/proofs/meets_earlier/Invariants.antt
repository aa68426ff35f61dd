use Rattle.word.proofs.Tests.{Unmet}
use Rattle.model.specs.Store.{rows_in}
use Rattle.region.specs.Region.{view}
use Rattle.beneath.specs.Facing.{meets}
use Rattle.beneath.proofs.meets_earlier.Given as goal

abbrev pub invariant-loop-j : goal.invariant-loop-j
invariant-loop-j l = Unmet (meets (view l.region) l.mode (rows_in (view l.region).prepared) l.name.0) l.i l.j
