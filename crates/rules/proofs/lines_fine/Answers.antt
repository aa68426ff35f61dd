use Rattle.rules.proofs.Laws.{loop_none, line_more, lines_stop, lines_end}
use Rattle.rules.proofs.lines_fine.Goals as goal

pub loop-i-init : goal.loop-i-init
loop-i-init c = loop_none _

pub returns-then-not-line_ok : goal.returns-then-not-line_ok
returns-then-not-line_ok c = search lines_stop

pub loop-i-preserved : goal.loop-i-preserved
loop-i-preserved c = search line_more

pub returns : goal.returns
returns c = search lines_end
