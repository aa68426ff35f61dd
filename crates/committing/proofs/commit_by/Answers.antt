use Rattle.committing.proofs.Ended.{commit_over}
use Rattle.committing.proofs.commit_by.Goals as goal

pub returns : goal.returns
returns c = search commit_over
