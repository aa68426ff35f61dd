use Rattle.region.proofs.ReadLaws.{names_read}
use Rattle.region.proofs.count_names.Goals as goal

pub returns : goal.returns
returns c = search names_read
