use mathlib.Core.Path.{◌≡◌}
use mathlib.Core.Bool.{not}
use lib.ListN.{drop}
use Rattle.transaction.specs.declared.Edit.{Edit}
use Rattle.region.specs.Region.{view}
use Rattle.model.specs.Basic.{any, is_empty}
use Rattle.model.specs.Store.{rows_in, mode_in}
use Rattle.model.specs.Writes.{packed_edit, packed_edits}
use Rattle.writes.proofs.any_edit.Given as goal

abbrev pub invariant-loop-i : goal.invariant-loop-i
invariant-loop-i l =
    any (λ (r : Edit). not (is_empty (packed_edit (view l.region) l.mode r))) (drop l.i (rows_in (view l.region).prepared))
    ≡ not (is_empty (packed_edits (view l.region) (mode_in (view l.region).prepared) (rows_in (view l.region).prepared)))
