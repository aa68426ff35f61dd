use Rattle.dehlbazin.proofs.Laws.{small_record, finished}
use Rattle.dehlbazin.proofs.dehlbazin_read_name.Goals as goal

pub returns-then-answer-ne-SIZE : goal.returns-then-answer-ne-SIZE
returns-then-answer-ne-SIZE c = search small_record

pub returns : goal.returns
returns c = search finished
