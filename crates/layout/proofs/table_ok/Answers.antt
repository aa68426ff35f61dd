use Rattle.layout.proofs.Laws.{table_whole}
use Rattle.layout.proofs.table_ok.Goals as goal

pub returns : goal.returns
returns c = search table_whole
