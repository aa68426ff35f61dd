use Rattle.beneath.proofs.Laws.{earlier_here, earlier_end}
use Rattle.beneath.proofs.meets_earlier.Goals as goal

pub returns-then-meets_row : goal.returns-then-meets_row
returns-then-meets_row c = search earlier_here

pub returns : goal.returns
returns c = search earlier_end
