use Rattle.dehlbazin.proofs.Laws.{small_closing, finished_closing}
use Rattle.dehlbazin.proofs.dehlbazin_close_receiver.Goals as goal

pub returns-then-answer-ne-SIZE : goal.returns-then-answer-ne-SIZE
returns-then-answer-ne-SIZE c = search small_closing

pub returns : goal.returns
returns c = search finished_closing
