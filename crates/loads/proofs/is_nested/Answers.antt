use Rattle.loads.proofs.Laws.{nests_none, nests_under, nests_over}
use Rattle.loads.proofs.is_nested.Goals as goal

pub returns-then-loose_above : goal.returns-then-loose_above
returns-then-loose_above c = search nests_under

pub returns-else-loose_above : goal.returns-else-loose_above
returns-else-loose_above c = search nests_over

pub returns-else-is_value : goal.returns-else-is_value
returns-else-is_value c = search nests_none
