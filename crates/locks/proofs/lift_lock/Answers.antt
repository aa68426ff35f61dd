use Rattle.calls.proofs.Replies.{bad_region, good_laid}
use Rattle.locks.proofs.Laws.{lifted_so}
use Rattle.locks.proofs.lift_lock.Goals as goal

pub returns-then-not-is_good : goal.returns-then-not-is_good
returns-then-not-is_good c = search bad_region

pub relock-requires : goal.relock-requires
relock-requires c = search good_laid

pub returns : goal.returns
returns c = search lifted_so
