use Rattle.calls.proofs.Replies.{handed_up}
use Rattle.calls.proofs.Laws.{record_size, record_refused, record_starts}
use Rattle.calls.proofs.start_with_settings.Goals as goal

pub returns-then-region-ne-SIZE : goal.returns-then-region-ne-SIZE
returns-then-region-ne-SIZE c = search record_size

pub returns-in_err-summary : goal.returns-in_err-summary
returns-in_err-summary c = handed_up c.from_residual.ensures.1 (record_refused _ _ c.if-region-ne-SIZE.false _ c.read.ensures _ c.in_err-summary.was)

pub returns : goal.returns
returns c = record_starts _ _ c.if-region-ne-SIZE.false _ c.read.ensures _ _ _ c.in_ok-summary.was c.start_with.ensures
