use Rattle.names.proofs.Order.{before_short, before_not, before_more, before_end}
use Rattle.names.proofs.spelling.is_before.Goals as goal

pub returns-then-a-i : goal.returns-then-a-i
returns-then-a-i c = search before_short

pub returns-then-a-i-2 : goal.returns-then-a-i-2
returns-then-a-i-2 c = search before_not

pub loop-i-preserved : goal.loop-i-preserved
loop-i-preserved c = search before_more

pub returns : goal.returns
returns c = search before_end
