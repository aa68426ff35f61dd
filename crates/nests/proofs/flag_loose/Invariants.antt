use Rattle.region.specs.Region.{view}
use Rattle.nests.proofs.Raising.{Raising}
use Rattle.model.specs.Beneath.{is_loose}
use Rattle.nests.proofs.Laws.{itself}
use Rattle.nests.proofs.flag_loose.Given as goal

abbrev pub invariant-loop-n : goal.invariant-loop-n
invariant-loop-n l = Raising itself (is_loose (view l.region)) l.count l.n l.flags
