use borrow.Author.Rules.{rules}
use mathlib.Core.Path.{◌∙◌}
use Rattle.edits.proofs.Laws.{no_deref, no_change, edit_in_lem}
use Rattle.edits.proofs.get_edit.Goals as goal

pub returns-then-deref-gt1 : goal.returns-then-deref-gt1
returns-then-deref-gt1 c = search no_deref

pub returns-in_err-change : goal.returns-in_err-change
returns-in_err-change c =
    c.from_residual.ensures
    ∙ no_change c.args.part.now _ c.byte_at-deref.ensures (search rules) _ c.get_change.ensures c.in_err-change.was

pub returns : goal.returns
returns c =
    edit_in_lem c.args.part.now _ c.byte_at-deref.ensures (search rules) _ c.get_change.ensures _ _ _ c.in_ok-change.was
    c.get16_at-name.ensures c.new.ensures
