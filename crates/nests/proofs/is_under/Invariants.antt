use Rattle.word.proofs.Tests.{Unmet}
use Rattle.region.specs.Region.{view}
use Rattle.nests.specs.Under.{under_one}
use Rattle.nests.proofs.is_under.Given as goal

abbrev pub invariant-loop-m : goal.invariant-loop-m
invariant-loop-m l = Unmet (under_one (view l.region) l.upper l.n) l.count l.m
