use Rattle.splits.proofs.Laws.{not_followed, is_followed}
use Rattle.splits.proofs.follow_row.Goals as goal

pub returns-then-not-follow : goal.returns-then-not-follow
returns-then-not-follow c = search not_followed

pub returns : goal.returns
returns c = search is_followed
