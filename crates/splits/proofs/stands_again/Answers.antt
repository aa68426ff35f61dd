use Rattle.splits.proofs.Twice.{again_none, again_later}
use Rattle.splits.proofs.stands_again.Goals as goal

pub loop-j-preserved : goal.loop-j-preserved
loop-j-preserved c = search again_later

pub returns : goal.returns
returns c = search again_none
