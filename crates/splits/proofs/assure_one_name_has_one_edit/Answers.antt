use Rattle.word.proofs.Flags.{all_down}
use Rattle.splits.proofs.Twice.{least_none, least_found}
use Rattle.splits.proofs.assure_one_name_has_one_edit.Goals as goal

pub least_repeated-requires-clause-flags : goal.least_repeated-requires-clause-flags
least_repeated-requires-clause-flags c = search all_down

pub returns-in-None : goal.returns-in-None
returns-in-None c = search least_none

pub returns-in-Some : goal.returns-in-Some
returns-in-Some c = search least_found
