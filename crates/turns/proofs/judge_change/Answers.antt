use Rattle.turns.proofs.Judges.{judge_update_is, judge_delete_is}
use Rattle.turns.proofs.judge_change.Goals as goal

pub returns-in-Update : goal.returns-in-Update
returns-in-Update c = search judge_update_is

pub returns-in-Delete : goal.returns-in-Delete
returns-in-Delete c = search judge_delete_is
