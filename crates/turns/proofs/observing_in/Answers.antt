use Rattle.turns.proofs.Judges.{observing_update, observing_delete}
use Rattle.turns.proofs.observing_in.Goals as goal

pub returns-in-Update : goal.returns-in-Update
returns-in-Update c = search observing_update

pub returns-in-Delete : goal.returns-in-Delete
returns-in-Delete c = search observing_delete
