use Rattle.rules.proofs.Marks.{names_other}
use Rattle.rules.proofs.same_names.Goals as goal

pub returns-else-marks-n : goal.returns-else-marks-n
returns-else-marks-n c = search names_other
