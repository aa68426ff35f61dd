use Rattle.rows.proofs.Laws.{lines_any}
use Rattle.rows.proofs.has_lines.Goals as goal

pub loop-i-init : goal.loop-i-init
loop-i-init c = lines_any _ _
