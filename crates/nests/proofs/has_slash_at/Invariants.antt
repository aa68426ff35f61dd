use lib.ListN.{length}
use Rattle.word.proofs.Tests.{Unmet}
use Rattle.nests.specs.Under.{slashed}
use Rattle.nests.proofs.has_slash_at.Given as goal

abbrev pub invariant-loop-i : goal.invariant-loop-i
invariant-loop-i l = Unmet (slashed l.name l.sizes) (length l.name) l.i
