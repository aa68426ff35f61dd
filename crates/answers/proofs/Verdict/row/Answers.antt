use mathlib.Core.Path.{◌∙◌, ap}
use Rattle.model.specs.Numbers.{answer}
use Rattle.answers.proofs.Laws.{row_used}
use Rattle.answers.proofs.Verdict.row.Goals as goal

pub returns : goal.returns
returns c = c.done.ensures ∙ ap (answer 0) (row_used c.args.row c.args.found _ _ c.row_numbers-p.ensures c.place.ensures)
