use Rattle.region.proofs.ReadLaws.{line_read_lem}
use Rattle.region.proofs.line_at.Goals as goal

pub returns : goal.returns
returns c = search line_read_lem
