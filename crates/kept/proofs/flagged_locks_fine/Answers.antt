use Rattle.kept.proofs.Laws.{none_below, all_more, all_stop}
use Rattle.kept.proofs.flagged_locks_fine.Goals as goal

pub loop-n-init : goal.loop-n-init
loop-n-init c = none_below _

pub returns-then-not-lock_fine : goal.returns-then-not-lock_fine
returns-then-not-lock_fine c = search all_stop

pub loop-n-preserved : goal.loop-n-preserved
loop-n-preserved c = search all_more
