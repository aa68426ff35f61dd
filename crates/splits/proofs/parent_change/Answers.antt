use Rattle.splits.proofs.Laws.{parent_update, parent_delete}
use Rattle.splits.proofs.parent_change.Goals as goal

pub returns-in-Update : goal.returns-in-Update
returns-in-Update c = search parent_update

pub returns-in-Delete : goal.returns-in-Delete
returns-in-Delete c = search parent_delete
