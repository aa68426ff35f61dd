use Rattle.scribe.proofs.Written.{number_put}
use Rattle.scribe.proofs.put_number.Goals as goal

pub returns : goal.returns
returns c = search number_put
