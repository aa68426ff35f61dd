use Rattle.std.proofs.lemmas.Result.{err_from_is_err_and}
use Rattle.preparing.proofs.Judging.{turns_refused, turns_full, turns_room}
use Rattle.preparing.proofs.judge_turns.Goals as goal

pub returns-in_err-take_turns : goal.returns-in_err-take_turns
returns-in_err-take_turns c =
    let p = err_from_is_err_and c.from_residual.result c.from_residual.ensures.1 in
    rw (p.1, p.2) (turns_refused _ _ _ _ _ c.mode-mode.ensures c.opens_table-opened.ensures c.take_turns.ensures _ c.in_err-take_turns.was)

pub returns-then-not-room_fine : goal.returns-then-not-room_fine
returns-then-not-room_fine c =
    turns_full _ _ _ _ _ c.mode-mode.ensures c.opens_table-opened.ensures c.take_turns.ensures c.in_ok-take_turns.was _ c.room_fine.ensures
    c.if-not-room_fine.true

pub returns : goal.returns
returns c =
    turns_room _ _ _ _ _ c.mode-mode.ensures c.opens_table-opened.ensures c.take_turns.ensures c.in_ok-take_turns.was _ c.room_fine.ensures
    c.if-not-room_fine.false
