use Rattle.std.proofs.lemmas.Result.{err_from_is_err_and}
use Rattle.turns.proofs.Turns.{turn_refused, turn_passed}
use Rattle.turns.proofs.lock_ref_and_apply_change.Goals as goal

pub returns-in_err-judge_turn : goal.returns-in_err-judge_turn
returns-in_err-judge_turn c =
    let p = err_from_is_err_and c.from_residual.result c.from_residual.ensures.1 in
    rw (p.1, p.2) (turn_refused _ _ _ _ _ c.judge_turn.ensures _ c.requires.laid c.in_err-judge_turn.was)

pub returns : goal.returns
returns c =
    turn_passed _ _ _ _ _ c.judge_turn.ensures _ c.requires.i_in_bounds c.in_ok-judge_turn.was c.turn_row.ensures
