use Rattle.nests.proofs.Laws.{slash_here, slash_end}
use Rattle.nests.proofs.has_slash_at.Goals as goal

pub returns-then-is_slash_at : goal.returns-then-is_slash_at
returns-then-is_slash_at c = search slash_here

pub returns : goal.returns
returns c = search slash_end
