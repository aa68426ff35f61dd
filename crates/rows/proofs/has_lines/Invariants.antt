use mathlib.Core.Path.{◌≡◌}
use lib.ListN.{drop}
use Rattle.region.specs.Region.{view}
use Rattle.model.specs.Basic.{any}
use Rattle.model.specs.Store.{is_of}
use Rattle.model.specs.Due.{has_lines}
use Rattle.rows.proofs.has_lines.Given as goal

abbrev pub invariant-loop-i : goal.invariant-loop-i
invariant-loop-i l = any (is_of l.name) (drop l.i (view l.region).lines) ≡ has_lines (view l.region) l.name
