use Rattle.writers.proofs.PutLaws.{put_loose_is}
use Rattle.writers.proofs.put_loose_at.Goals as goal

pub returns : goal.returns
returns c = search put_loose_is
