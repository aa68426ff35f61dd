use Rattle.rules.proofs.Laws.{loop_none}
use Rattle.rules.proofs.Marks.{name_more, name_stop}
use Rattle.rules.proofs.name_apart.Goals as goal

pub loop-m-init : goal.loop-m-init
loop-m-init c = loop_none _

pub returns-then-same_names : goal.returns-then-same_names
returns-then-same_names c = search name_stop

pub loop-m-preserved : goal.loop-m-preserved
loop-m-preserved c = search name_more
