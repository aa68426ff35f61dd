use Rattle.writers.proofs.LineLaws.{add_line_is}
use Rattle.writers.proofs.add_line.Goals as goal

pub returns : goal.returns
returns c = search add_line_is
