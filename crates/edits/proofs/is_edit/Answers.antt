use Rattle.edits.proofs.Laws.{edit_is_some}
use Rattle.edits.proofs.is_edit.Goals as goal

pub returns : goal.returns
returns c = edit_is_some _ _ _ c.is_some.ensures c.get_edit.ensures
