use Rattle.word.proofs.Tests.{Unmet}
use Rattle.region.specs.Region.{view}
use Rattle.beneath.specs.Facing.{facing}
use Rattle.beneath.proofs.any_facing.Given as goal

abbrev pub invariant-loop-m : goal.invariant-loop-m
invariant-loop-m l = Unmet (facing l.up (view l.region) l.name.0) l.count l.m
