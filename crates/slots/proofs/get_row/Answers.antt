use mathlib.Core.Path.{◌∙◌}
use Rattle.slots.proofs.Laws.{row_no_change, row_no_parent, row_in_lem}
use Rattle.slots.proofs.get_row.Goals as goal

pub returns-in_err-change : goal.returns-in_err-change
returns-in_err-change c = c.from_residual.ensures ∙ row_no_change _ _ c.get_change.ensures c.in_err-change.was

pub returns-in_err-parent : goal.returns-in_err-parent
returns-in_err-parent c =
    c.from_residual-in_err-parent.ensures
    ∙ row_no_parent _ _ c.get_change.ensures _ c.in_ok-change.was _ c.get_parent.ensures c.in_err-parent.was

pub returns : goal.returns
returns c =
    row_in_lem _ _ c.get_change.ensures _ c.in_ok-change.was _ c.get_parent.ensures _ _ _ _ c.in_ok-parent.was c.get16_at-name.ensures c.get_at-leaf.ensures c.new.ensures
