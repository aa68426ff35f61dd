use Rattle.region.specs.Region.{view}
use Rattle.rows.proofs.Gather.{Gathering, of_line, every}
use Rattle.rows.proofs.flag_lines.Given as goal

abbrev pub invariant-loop-i : goal.invariant-loop-i
invariant-loop-i l = Gathering of_line every (view l.region).lines l.i l.flags
