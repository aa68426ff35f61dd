use Rattle.region.proofs.ReadLaws.{mode_read}
use Rattle.region.proofs.mode.Goals as goal

pub returns : goal.returns
returns c = search mode_read
