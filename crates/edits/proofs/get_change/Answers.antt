use mathlib.Core.Path.{◌∙◌}
use Rattle.slots.proofs.Laws.{ok_of_or}
use Rattle.edits.proofs.Laws.{no_log, no_force, no_previous, no_new, change_in_lem}
use Rattle.edits.proofs.get_change.Goals as goal

pub returns-in_err-log : goal.returns-in_err-log
returns-in_err-log c = c.from_residual.ensures ∙ no_log _ _ _ c.byte_at.ensures (ok_of_or _ _ _ _ c.ok.ensures.value c.try_from.ensures) c.in_err-log.was

pub returns-then-force-gt1 : goal.returns-then-force-gt1
returns-then-force-gt1 c = no_force _ _ _ c.byte_at.ensures (ok_of_or _ _ _ _ c.ok.ensures.value c.try_from.ensures) _ c.in_ok-log.was _ c.byte_at-force.ensures c.if-force-gt1.true

pub returns-in_err-expected : goal.returns-in_err-expected
returns-in_err-expected c =
    c.from_residual-in_err-expected.ensures
    ∙ no_previous _ _ _ c.byte_at.ensures (ok_of_or _ _ _ _ c.ok.ensures.value c.try_from.ensures) _ c.in_ok-log.was _ c.byte_at-force.ensures c.if-force-gt1.false _ c.get_expected.ensures c.in_err-expected.was

pub returns-in_err-new : goal.returns-in_err-new
returns-in_err-new c =
    c.from_residual-in_err-new.ensures
    ∙ no_new _ _ _ c.byte_at.ensures (ok_of_or _ _ _ _ c.ok.ensures.value c.try_from.ensures) _ c.in_ok-log.was _ c.byte_at-force.ensures c.if-force-gt1.false _ c.get_expected.ensures _ c.in_ok-expected.was _ c.get_target.ensures c.in_err-new.was

pub returns : goal.returns
returns c =
    change_in_lem _ _ _ c.byte_at.ensures (ok_of_or _ _ _ _ c.ok.ensures.value c.try_from.ensures) _ c.in_ok-log.was _ c.byte_at-force.ensures c.if-force-gt1.false _ c.get_expected.ensures _ c.in_ok-expected.was _ c.get_target.ensures _ _ _ _ c.in_ok-new.was c.byte_at-kind.ensures c.get16_at-message.ensures
    c.change_from.ensures
