use Rattle.slots.proofs.Laws.{line_in_lem}
use Rattle.slots.proofs.get_line.Goals as goal

pub returns : goal.returns
returns c = search line_in_lem
