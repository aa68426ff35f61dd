use mathlib.Core.Path.{◌≡◌}
use lib.ListN.{drop}
use Rattle.model.specs.Load.{number_from}
use Rattle.region.specs.Region.{view}
use Rattle.steps.proofs.find_name.Given as goal

-- `find_name` meets its contract: the names before n have other bytes. Assumes nothing.
abbrev pub invariant-loop-n : goal.invariant-loop-n
invariant-loop-n l = number_from l.n l.name (drop l.n (view l.region).entries) ≡ number_from 0 l.name (view l.region).entries
