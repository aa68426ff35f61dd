use Rattle.region.proofs.ReadLaws.{lines_read}
use Rattle.region.proofs.count_lines.Goals as goal

pub returns : goal.returns
returns c = search lines_read
