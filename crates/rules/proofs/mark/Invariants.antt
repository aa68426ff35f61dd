use mathlib.Core.Path.{◌≡◌}
use lib.ListN.{drop}
use Rattle.rules.specs.Marks.{mark_on, mark_of}
use Rattle.rules.proofs.mark.Given as goal

abbrev pub invariant-loop-byte : goal.invariant-loop-byte
invariant-loop-byte l = mark_on l.acc (drop l.byte-index l.name) ≡ mark_of l.name
