use Rattle.writers.proofs.RowLaws.{put_row_is}
use Rattle.writers.proofs.put_row_at.Goals as goal

pub returns : goal.returns
returns c = search put_row_is
