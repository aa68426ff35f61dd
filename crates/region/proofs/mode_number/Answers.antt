use Rattle.region.proofs.ReadLaws.{number_read}
use Rattle.region.proofs.mode_number.Goals as goal

pub returns : goal.returns
returns c = search number_read
