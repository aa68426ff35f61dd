use Rattle.edits.proofs.Laws.{no_edit_lem}
use Rattle.edits.proofs.no_edit.Goals as goal

pub returns : goal.returns
returns c =
    let d = c.default.ensures in
    no_edit_lem _ _ _ _ (d.0, d.1.0, d.1.1) c.null.ensures c.at.ensures c.new.ensures
