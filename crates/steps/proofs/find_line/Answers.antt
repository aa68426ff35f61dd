use Rattle.steps.proofs.Laws.{line_start, line_here, line_more, line_end}
use Rattle.steps.proofs.find_line.Goals as goal

pub loop-i-init : goal.loop-i-init
loop-i-init c = line_start _ _ _

pub returns-then-is_here : goal.returns-then-is_here
returns-then-is_here c = search line_here

pub loop-i-preserved : goal.loop-i-preserved
loop-i-preserved c = search line_more

pub returns : goal.returns
returns c = search line_end
