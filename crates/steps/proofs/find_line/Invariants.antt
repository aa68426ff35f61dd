use mathlib.Core.Path.{◌≡◌}
use lib.ListN.{drop}
use Rattle.region.specs.Region.{view}
use Rattle.model.specs.Basic.{select}
use Rattle.model.specs.Store.{is_of, lines_of}
use Rattle.steps.specs.Steps.{line_among}
use Rattle.steps.proofs.find_line.Given as goal

abbrev pub invariant-loop-i : goal.invariant-loop-i
invariant-loop-i l = line_among l.left (select (is_of l.name) (drop l.i (view l.region).lines)) ≡ line_among l.place (lines_of (view l.region) l.name)
