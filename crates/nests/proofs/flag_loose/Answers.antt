use Rattle.nests.proofs.Laws.{loose_start, loose_more, loose_end}
use Rattle.nests.proofs.flag_loose.Goals as goal

pub loop-n-init : goal.loop-n-init
loop-n-init c = search loose_start

pub loop-n-preserved : goal.loop-n-preserved
loop-n-preserved c = search loose_more

pub returns : goal.returns
returns c = search loose_end
