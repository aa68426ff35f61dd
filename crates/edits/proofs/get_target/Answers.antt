use Rattle.edits.proofs.Laws.{target_in}
use Rattle.edits.proofs.get_target.Goals as goal

pub returns : goal.returns
returns c = search target_in
