use Rattle.region.proofs.ReadLaws.{row_long, row_read}
use Rattle.region.proofs.row_at.Goals as goal

pub get_row-requires : goal.get_row-requires
get_row-requires c = search row_long

pub returns : goal.returns
returns c = search row_read
