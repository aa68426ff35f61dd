use Rattle.turns.proofs.Judges.{update_absent, update_not, update_match_absent, update_match, update_may}
use Rattle.turns.proofs.judge_update.Goals as goal

pub returns-in_default : goal.returns-in_default
returns-in_default c = search update_absent

pub returns-in_default-existing-2 : goal.returns-in_default-existing-2
returns-in_default-existing-2 c = search update_match_absent

pub returns-in-Some-existing : goal.returns-in-Some-existing
returns-in-Some-existing c = search update_not

pub returns-in-Some-existing-2 : goal.returns-in-Some-existing-2
returns-in-Some-existing-2 c = search update_match

pub returns-in-ExistingMustMatch : goal.returns-in-ExistingMustMatch
returns-in-ExistingMustMatch c = search update_may
