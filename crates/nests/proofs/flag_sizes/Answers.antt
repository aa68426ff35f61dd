use Rattle.nests.proofs.Laws.{sizes_start, sizes_more, sizes_end}
use Rattle.nests.proofs.flag_sizes.Goals as goal

pub loop-m-init : goal.loop-m-init
loop-m-init c = search sizes_start

pub loop-m-preserved : goal.loop-m-preserved
loop-m-preserved c = search sizes_more

pub returns : goal.returns
returns c = search sizes_end
