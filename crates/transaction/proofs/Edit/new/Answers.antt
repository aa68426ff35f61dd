use Rattle.transaction.proofs.Laws.{row_begins}
use Rattle.transaction.proofs.Edit.new.Goals as goal

pub returns : goal.returns
returns c = row_begins _ _ c.null.ensures
