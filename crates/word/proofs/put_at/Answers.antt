use Rattle.word.proofs.Parts.{put_at_is}
use Rattle.word.proofs.put_at.Goals as goal

pub returns : goal.returns
returns c = search put_at_is
