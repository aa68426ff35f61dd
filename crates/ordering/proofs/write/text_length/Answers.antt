use Rattle.ordering.proofs.Lines.{measure_start, measure_more}
use Rattle.ordering.proofs.write.text_length.Goals as goal

pub loop-i-init : goal.loop-i-init
loop-i-init c = search measure_start

pub loop-i-preserved : goal.loop-i-preserved
loop-i-preserved c = search measure_more
