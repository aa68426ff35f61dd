use Rattle.region.specs.Region.{view}
use Rattle.nests.proofs.Raising.{Raising}
use Rattle.nests.specs.Under.{is_up}
use Rattle.nests.proofs.Laws.{size_at}
use Rattle.nests.proofs.flag_sizes.Given as goal

abbrev pub invariant-loop-m : goal.invariant-loop-m
invariant-loop-m l = Raising (size_at (view l.region)) (is_up l.upper) l.count l.m l.sizes
