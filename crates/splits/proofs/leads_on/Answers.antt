use Rattle.splits.proofs.Laws.{leads_none, leads_here, leads_later}
use Rattle.splits.proofs.leads_on.Goals as goal

pub loop-i-preserved : goal.loop-i-preserved
loop-i-preserved c = search leads_later

pub returns-then-is_some : goal.returns-then-is_some
returns-then-is_some c = search leads_here

pub returns : goal.returns
returns c = search leads_none
