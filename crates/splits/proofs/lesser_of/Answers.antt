use Rattle.splits.proofs.Twice.{lesser_none, lesser_first, lesser_second}
use Rattle.splits.proofs.lesser_of.Goals as goal

pub returns-in_default : goal.returns-in_default
returns-in_default c = search lesser_none

pub returns-then-is_before : goal.returns-then-is_before
returns-then-is_before c = search lesser_first

pub returns : goal.returns
returns c = search lesser_second
