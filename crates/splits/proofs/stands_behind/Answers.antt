use Rattle.splits.proofs.Twice.{behind_flag}
use Rattle.splits.proofs.stands_behind.Goals as goal

pub returns-then-n-flags : goal.returns-then-n-flags
returns-then-n-flags c = search behind_flag
