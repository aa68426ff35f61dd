use mathlib.Core.Path.{◌∙◌}
use Rattle.slots.proofs.Laws.{no_expected, expected_in}
use Rattle.slots.proofs.get_expected.Goals as goal

pub returns-in_err-was : goal.returns-in_err-was
returns-in_err-was c = c.from_residual.ensures ∙ no_expected _ _ c.get_target.ensures c.in_err-was.was

pub returns : goal.returns
returns c = search (expected_in, c.in_ok-was.was)
