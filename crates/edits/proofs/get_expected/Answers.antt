use Rattle.edits.proofs.Laws.{no_expected, expected_in}
use mathlib.Core.Path.{◌∙◌}
use Rattle.edits.proofs.get_expected.Goals as goal

pub returns-in_err-was : goal.returns-in_err-was
returns-in_err-was c =
    c.from_residual.ensures ∙ no_expected c.args.part.now _ c.get_target.ensures c.in_err-was.was

pub returns : goal.returns
returns c = expected_in c.args.part.now _ _ _ _ c.get_target.ensures c.in_ok-was.was c.byte_at.ensures c.new.ensures
