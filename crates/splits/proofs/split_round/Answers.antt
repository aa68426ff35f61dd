use Rattle.splits.proofs.Table.{round_start, round_more, round_end}
use Rattle.splits.proofs.split_round.Goals as goal

pub loop-i-init : goal.loop-i-init
loop-i-init c = search round_start

pub loop-i-preserved : goal.loop-i-preserved
loop-i-preserved c = search round_more

pub returns : goal.returns
returns c = search round_end
