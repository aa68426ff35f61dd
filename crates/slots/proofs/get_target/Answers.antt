use Rattle.slots.proofs.Laws.{target_in}
use Rattle.slots.proofs.get_target.Goals as goal

pub returns : goal.returns
returns c = search target_in
