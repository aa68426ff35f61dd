use Rattle.writers.proofs.LineLaws.{Far}
use Rattle.writers.proofs.remove_lines.Given as goal

abbrev pub invariant-loop-i : goal.invariant-loop-i
invariant-loop-i l = Far l.name l.initial.region l.count l.i l.j l.region
