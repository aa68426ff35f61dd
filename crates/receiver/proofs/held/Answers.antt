use Rattle.receiver.proofs.Laws.{held_part}
use Rattle.receiver.proofs.held.Goals as goal

pub returns : goal.returns
returns c = search held_part
