use Rattle.rules.proofs.Seen.{seen_start, seen_next}
use Rattle.rules.proofs.Laws.{loop_none, loop_more, rows_upward, rows_stop, rows_end}
use Rattle.rules.proofs.flagged_rows_fine.Goals as goal

pub loop-i-init : goal.loop-i-init
loop-i-init c = (loop_none _, search seen_start)

pub row_stands-requires-clause-upward : goal.row_stands-requires-clause-upward
row_stands-requires-clause-upward c = search rows_upward

pub returns-then-not-row_stands : goal.returns-then-not-row_stands
returns-then-not-row_stands c = search rows_stop

pub loop-i-preserved : goal.loop-i-preserved
loop-i-preserved c = (search loop_more, search seen_next)

pub returns : goal.returns
returns c = search rows_end
