use Rattle.dehlbazin.proofs.Laws.{small_settings, finished_settings}
use Rattle.dehlbazin.proofs.dehlbazin_write_settings.Goals as goal

pub returns-then-answer-ne-SIZE : goal.returns-then-answer-ne-SIZE
returns-then-answer-ne-SIZE c = search small_settings

pub returns : goal.returns
returns c = search finished_settings
