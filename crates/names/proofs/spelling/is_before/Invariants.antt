use lib.ListN.{drop}
use mathlib.Core.Path.{◌≡◌}
use Rattle.model.specs.Names.{before}
use Rattle.names.proofs.spelling.is_before.Given as goal

-- `is_before` meets its contract: what is left of the two is in the order of the whole. Assumes nothing.
abbrev pub invariant-loop-i : goal.invariant-loop-i
invariant-loop-i l = before (drop l.i l.a) (drop l.i l.b) ≡ before l.a l.b
