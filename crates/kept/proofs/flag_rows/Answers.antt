use Rattle.kept.proofs.Laws.{rows_end}
use Rattle.kept.proofs.flag_rows.Goals as goal

pub returns : goal.returns
returns c = search rows_end
