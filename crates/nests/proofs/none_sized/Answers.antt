use Rattle.nests.proofs.Laws.{none_here, none_end}
use Rattle.nests.proofs.none_sized.Goals as goal

pub returns-then-is_flagged_under : goal.returns-then-is_flagged_under
returns-then-is_flagged_under c = search none_here

pub returns : goal.returns
returns c = search none_end
