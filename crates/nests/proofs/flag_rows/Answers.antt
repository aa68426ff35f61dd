use Rattle.nests.proofs.Laws.{rows_start, rows_more, rows_end}
use Rattle.nests.proofs.flag_rows.Goals as goal

pub loop-i-init : goal.loop-i-init
loop-i-init c = search rows_start

pub loop-i-preserved : goal.loop-i-preserved
loop-i-preserved c = search rows_more

pub returns : goal.returns
returns c = search rows_end
