use Rattle.dehlbazin.proofs.Laws.{small_start, finished_start}
use Rattle.dehlbazin.proofs.dehlbazin_start_with_settings.Goals as goal

pub returns-then-answer-ne-SIZE : goal.returns-then-answer-ne-SIZE
returns-then-answer-ne-SIZE c = search small_start

pub returns : goal.returns
returns c = search finished_start
