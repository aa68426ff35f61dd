use Rattle.calls.proofs.Replies.{good_laid, good_fine, bad_region}
use Rattle.committing.proofs.Ended.{busy, commit_idle, commit_done}
use Rattle.committing.proofs.commit.Goals as goal

pub returns-then-not-is_good : goal.returns-then-not-is_good
returns-then-not-is_good c = search bad_region

pub mode_number-requires : goal.mode_number-requires
mode_number-requires c = search good_laid

pub returns-then-mode_number-eq0 : goal.returns-then-mode_number-eq0
returns-then-mode_number-eq0 c = search commit_idle

pub commit_prepared-requires-clause-laid : goal.commit_prepared-requires-clause-laid
commit_prepared-requires-clause-laid c =
    search good_laid

pub commit_prepared-requires-clause-fine : goal.commit_prepared-requires-clause-fine
commit_prepared-requires-clause-fine c =
    search good_fine

pub commit_prepared-requires-clause-region_value : goal.commit_prepared-requires-clause-region_value
commit_prepared-requires-clause-region_value c =
    search busy

pub returns : goal.returns
returns c = search commit_done
