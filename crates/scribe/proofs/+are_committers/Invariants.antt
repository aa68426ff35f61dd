-- `scribe::are_committers` meets its contract: the first heading and name, and what it answers of the others. The measure is how many
-- numbers there are. Assumes nothing.
use lib.ListN.{length}
use Rattle.scribe.proofs.+are_committers.Given as goal

abbrev pub decreases-are_committers : goal.decreases-are_committers
decreases-are_committers l = length l.numbers.now
