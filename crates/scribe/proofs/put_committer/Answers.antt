use Rattle.scribe.proofs.Written.{committer_put}
use Rattle.scribe.proofs.put_committer.Goals as goal

pub returns : goal.returns
returns c = search committer_put
