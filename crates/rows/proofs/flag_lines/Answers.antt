use Rattle.rows.proofs.Gather.{lines_end}
use Rattle.rows.proofs.flag_lines.Goals as goal

pub returns : goal.returns
returns c = search lines_end
