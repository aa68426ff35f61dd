use Rattle.writers.proofs.PutLaws.{put_packed_is}
use Rattle.writers.proofs.put_packed_at.Goals as goal

pub returns : goal.returns
returns c = search put_packed_is
