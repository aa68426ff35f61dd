use Rattle.slots.proofs.Laws.{ok_of_or}
use Rattle.calls.proofs.Replies.{some_or, nothing_or}
use Rattle.calls.proofs.Laws.{start_size, start_malformed, start_done}
use Rattle.calls.proofs.start_with.Goals as goal

pub returns-then-region-ne-SIZE : goal.returns-then-region-ne-SIZE
returns-then-region-ne-SIZE c = search start_size

pub returns-in_err-log : goal.returns-in_err-log
returns-in_err-log c =
    let read = ok_of_or _ _ _ _ c.ok.ensures.value c.try_from.ensures in
    nothing_or c.ok_or.ensures.value c.in_err-log.was c.from_residual.ensures.1 (λ h. start_malformed _ _ c.if-region-ne-SIZE.false _ read h)

pub returns : goal.returns
returns c =
    let read = ok_of_or _ _ _ _ c.ok.ensures.value c.try_from.ensures in
    let log = some_or c.ok_or.ensures.ok_part c.in_ok-log.was in
    start_done _ _ c.if-region-ne-SIZE.false _ read _ _ _ log c.make_empty.ensures c.done.ensures
