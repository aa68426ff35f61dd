use Rattle.nests.proofs.Laws.{under_here, under_end}
use Rattle.nests.proofs.is_under.Goals as goal

pub returns-then-is_under_one : goal.returns-then-is_under_one
returns-then-is_under_one c = search under_here

pub returns : goal.returns
returns c = search under_end
