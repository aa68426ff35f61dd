use Rattle.calls.proofs.Laws.{rollback_bad, rollback_done}
use Rattle.calls.proofs.Replies.{good_laid}
use Rattle.calls.proofs.roll_back.Goals as goal

pub returns-then-not-is_good : goal.returns-then-not-is_good
returns-then-not-is_good c = search rollback_bad

pub count_rows-rows-requires : goal.count_rows-rows-requires
count_rows-rows-requires c = search good_laid

pub release-requires : goal.release-requires
release-requires c = search good_laid

pub returns : goal.returns
returns c = search rollback_done
