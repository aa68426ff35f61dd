use Rattle.writers.proofs.RowLaws.{add_row_is}
use Rattle.writers.proofs.add_row.Goals as goal

pub returns : goal.returns
returns c = search add_row_is
