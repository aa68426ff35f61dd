use Rattle.region.proofs.ReadLaws.{rows_read}
use Rattle.region.proofs.count_rows.Goals as goal

pub returns : goal.returns
returns c = search rows_read
