use Rattle.preparing.proofs.Holding.{row_passed, row_held}
use Rattle.preparing.proofs.hold_row.Goals as goal

pub returns-then-keeps_lock : goal.returns-then-keeps_lock
returns-then-keeps_lock c = search row_held

pub returns-else-keeps_lock : goal.returns-else-keeps_lock
returns-else-keeps_lock c = search row_passed
