use Rattle.dehlbazin.proofs.Laws.{small_receiver, finished_receiver}
use Rattle.dehlbazin.proofs.dehlbazin_fresh_receiver.Goals as goal

pub returns-then-answer-ne-SIZE : goal.returns-then-answer-ne-SIZE
returns-then-answer-ne-SIZE c = search small_receiver

pub returns : goal.returns
returns c = search finished_receiver
