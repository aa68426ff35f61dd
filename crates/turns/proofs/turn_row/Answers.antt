use mathlib.Core.Path.{sym, ◌∙◌}
use Rattle.turns.proofs.Turned.{turn_none, turn_still, turn_upward, turn_handed}
use Rattle.turns.proofs.turn_row.Goals as goal

pub returns-in_default : goal.returns-in_default
returns-in_default c =
    let e = c.put_existing-kept.ensures in
    turn_none _ c.args.i c.requires.i_in_bounds c.args.opened _ e.0 _ e.1 (sym c.previous_oid.ensures ∙ c.in_default.is)

pub hand_up-requires-clause-i_in_bounds : goal.hand_up-requires-clause-i_in_bounds
hand_up-requires-clause-i_in_bounds c =
    let e = c.put_existing-kept.ensures in
    turn_still _ c.args.i c.requires.i_in_bounds c.args.opened _ e.0 _ e.1

pub hand_up-requires-clause-upward : goal.hand_up-requires-clause-upward
hand_up-requires-clause-upward c =
    let e = c.put_existing-kept.ensures in
    turn_upward _ c.args.i c.requires.i_in_bounds c.args.opened _ e.0 _ e.1 c.requires.upward

pub returns-in-Some : goal.returns-in-Some
returns-in-Some c =
    let e = c.put_existing-kept.ensures in
    turn_handed _ c.args.i c.requires.i_in_bounds c.args.opened _ e.0 _ e.1 c.in-Some.oid _ (sym c.previous_oid.ensures ∙ c.in-Some.is) c.hand_up.ensures
