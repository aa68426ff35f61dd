use Rattle.turns.proofs.Judges.{delete_absent, delete_not, delete_match_absent, delete_match, delete_may}
use Rattle.turns.proofs.judge_delete.Goals as goal

pub returns-in_default : goal.returns-in_default
returns-in_default c = search delete_absent

pub returns-in_default-existing : goal.returns-in_default-existing
returns-in_default-existing c = search delete_match_absent

pub returns-in-MustNotExist : goal.returns-in-MustNotExist
returns-in-MustNotExist c = search delete_not

pub returns-in-Some-existing : goal.returns-in-Some-existing
returns-in-Some-existing c = search delete_match

pub returns-in-ExistingMustMatch : goal.returns-in-ExistingMustMatch
returns-in-ExistingMustMatch c = search delete_may
