use Rattle.region.specs.Region.{view}
use Rattle.nests.proofs.Raising.{Raising}
use Rattle.nests.proofs.Laws.{named, wanted}
use Rattle.nests.proofs.flag_rows.Given as goal

abbrev pub invariant-loop-i : goal.invariant-loop-i
invariant-loop-i l = Raising (named (view l.region)) (wanted (view l.region) l.mode l.writing) l.rows l.i l.flags
