use Rattle.texts.proofs.Digits.{name_done}
use Rattle.texts.proofs.put_name.Goals as goal

pub returns : goal.returns
returns c = search name_done
