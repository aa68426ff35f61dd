use Rattle.writers.proofs.RowLaws.{begin_is}
use Rattle.writers.proofs.begin_rows.Goals as goal

pub returns : goal.returns
returns c = search begin_is
