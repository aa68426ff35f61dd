use Rattle.committing.proofs.Ended.{reports_done, reports_unsigned, reports_used}
use Rattle.committing.proofs.report.Goals as goal

pub returns-in-None : goal.returns-in-None
returns-in-None c = search reports_done

pub returns-in-Some-NoCommitter : goal.returns-in-Some-NoCommitter
returns-in-Some-NoCommitter c =
    let why = rw c.in-Some-NoCommitter.is at c.in-Some-NoCommitter.field-0-is in
    search reports_unsigned

pub returns-in-Some-UsedUp : goal.returns-in-Some-UsedUp
returns-in-Some-UsedUp c =
    let why = rw c.in-Some-UsedUp.is at c.in-Some-UsedUp.field-0-is in
    search reports_used
