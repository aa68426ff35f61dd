use Rattle.dehlbazin.proofs.Laws.{small_writing, finished_writing}
use Rattle.dehlbazin.proofs.dehlbazin_write_packed.Goals as goal

pub returns-then-answer-ne-SIZE : goal.returns-then-answer-ne-SIZE
returns-then-answer-ne-SIZE c = search small_writing

pub returns : goal.returns
returns c = search finished_writing
