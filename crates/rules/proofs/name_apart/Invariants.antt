use mathlib.Core.Bool.{true}
use mathlib.Core.Path.{◌≡◌}
use Rattle.model.specs.Basic.{below}
use Rattle.region.specs.Region.{view}
use Rattle.model.specs.Fine.{apart_names}
use Rattle.rules.proofs.name_apart.Given as goal

abbrev pub invariant-loop-m : goal.invariant-loop-m
invariant-loop-m l = below l.m (apart_names (view l.region) l.n) ≡ true
