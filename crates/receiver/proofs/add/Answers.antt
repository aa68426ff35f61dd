use Rattle.receiver.proofs.Laws.{add_done}
use Rattle.receiver.proofs.add.Goals as goal

pub returns : goal.returns
returns c = search add_done
