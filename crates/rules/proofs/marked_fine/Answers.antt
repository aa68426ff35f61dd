use Rattle.rules.proofs.Laws.{loop_none, loop_more, names_stop, names_end}
use Rattle.rules.proofs.marked_fine.Goals as goal

pub loop-n-init : goal.loop-n-init
loop-n-init c = loop_none _

pub returns-then-not-name_ok : goal.returns-then-not-name_ok
returns-then-not-name_ok c = search names_stop

pub loop-n-preserved : goal.loop-n-preserved
loop-n-preserved c = search loop_more

pub returns : goal.returns
returns c = search names_end
