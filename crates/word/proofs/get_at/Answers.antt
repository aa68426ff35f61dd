use Rattle.word.proofs.Parts.{lent}
use Rattle.word.proofs.get_at.Goals as goal

pub returns : goal.returns
returns c = search lent
