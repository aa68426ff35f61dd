use borrow.Author.Rules.{rules}
use Rattle.std.proofs.lemmas.Result.{err_from_is_err_and}
use Rattle.turns.proofs.Turns.{far_start, far_more, far_stop, far_end}
use Rattle.turns.proofs.take_turns.Goals as goal

pub loop-i-init : goal.loop-i-init
loop-i-init c = search far_start

pub returns-in_err-lock_ref_and_apply_change : goal.returns-in_err-lock_ref_and_apply_change
returns-in_err-lock_ref_and_apply_change c =
    let p = err_from_is_err_and c.from_residual.result c.from_residual.ensures.1 in
    let e = c.in_err-lock_ref_and_apply_change.was in
    rw (p.1, p.2) (far_stop _ _ _ _ _ _ _ c.loop-i.invariant c.loop-i-test.true _ c.lock_ref_and_apply_change.ensures _ e)

pub loop-i-preserved : goal.loop-i-preserved
loop-i-preserved c =
    let e = c.in_ok-lock_ref_and_apply_change.was in
    far_more _ _ _ _ _ _ _ c.loop-i.invariant c.loop-i-test.true _ c.lock_ref_and_apply_change.ensures (search rules) e

pub returns : goal.returns
returns c = search far_end
