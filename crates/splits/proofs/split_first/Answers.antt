use Rattle.splits.proofs.Edits.{first_start, first_more, first_end}
use Rattle.splits.proofs.split_first.Goals as goal

pub loop-i-init : goal.loop-i-init
loop-i-init c = search first_start

pub loop-i-preserved : goal.loop-i-preserved
loop-i-preserved c = search first_more

pub returns : goal.returns
returns c = search first_end
