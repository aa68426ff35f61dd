use Rattle.scribe.proofs.Written.{front_put}
use Rattle.scribe.proofs.put_front.Goals as goal

pub returns : goal.returns
returns c = search front_put
