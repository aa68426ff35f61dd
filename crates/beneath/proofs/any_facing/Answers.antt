use Rattle.beneath.proofs.Laws.{facing_here, facing_end}
use Rattle.beneath.proofs.any_facing.Goals as goal

pub returns-then-is_facing : goal.returns-then-is_facing
returns-then-is_facing c = search facing_here

pub returns : goal.returns
returns c = search facing_end
