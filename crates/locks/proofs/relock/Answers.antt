use Rattle.calls.proofs.Replies.{handed_up}
use Rattle.locks.proofs.Laws.{found_there, relock_wrong, relock_refused, relock_done}
use Rattle.locks.proofs.relock.Goals as goal

pub returns-in_err-what : goal.returns-in_err-what
returns-in_err-what c = handed_up c.from_residual.ensures.1 (relock_refused _ _ _ _ _ _ c.lockable_of.ensures _ c.in_err-what.was)

pub lock_of-requires-clause-region_value : goal.lock_of-requires-clause-region_value
lock_of-requires-clause-region_value c = found_there _ _ _ _ _ c.lockable_of.ensures c.in_ok-what.was

pub returns-then-ne : goal.returns-then-ne
returns-then-ne c = relock_wrong _ _ _ _ _ _ c.lockable_of.ensures _ c.in_ok-what.was _ c.lock_of.ensures _ c.ne.ensures c.if-ne.true

pub set_lock-requires-clause-region_value : goal.set_lock-requires-clause-region_value
set_lock-requires-clause-region_value c = found_there _ _ _ _ _ c.lockable_of.ensures c.in_ok-what.was

pub returns : goal.returns
returns c =
    relock_done _ _ _ _ _ _ c.lockable_of.ensures _ c.in_ok-what.was _ c.lock_of.ensures _ c.ne.ensures _ _ c.if-ne.false c.set_lock.ensures c.done.ensures
