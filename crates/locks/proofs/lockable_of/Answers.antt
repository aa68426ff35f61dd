use Rattle.calls.proofs.Replies.{some_or}
use Rattle.locks.proofs.Laws.{kind_name_far, kind_name, kind_table, kind_other}
use Rattle.locks.proofs.lockable_of.Goals as goal

pub returns-in_err-name-in-0 : goal.returns-in_err-name-in-0
returns-in_err-name-in-0 c =
    kind_name_far _ _ _ _ _ _ _ c.in-0.is c.known.ensures c.ok_or.ensures.value c.in_err-name-in-0.was c.from_residual.ensures.1

pub returns-in_ok-name-in-0 : goal.returns-in_ok-name-in-0
returns-in_ok-name-in-0 c =
    let name = some_or c.ok_or.ensures.ok_part c.in_ok-name-in-0.was in
    search kind_name

pub returns-in-1 : goal.returns-in-1
returns-in-1 c = search kind_table

pub returns-in_default : goal.returns-in_default
returns-in_default c = search kind_other
