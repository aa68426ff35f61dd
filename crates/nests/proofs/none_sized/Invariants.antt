use Rattle.word.proofs.Tests.{Unmet}
use Rattle.region.specs.Region.{view}
use Rattle.nests.specs.Under.{flagged_under}
use Rattle.nests.proofs.none_sized.Given as goal

abbrev pub invariant-loop-n : goal.invariant-loop-n
invariant-loop-n l = Unmet (flagged_under (view l.region) l.lower l.upper) l.count l.n
