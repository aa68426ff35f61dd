-- `scribe::put_committers` meets its contract: the first committer, and what it writes of the others. The measure is how many numbers
-- there are. Assumes nothing.
use lib.ListN.{length}
use Rattle.scribe.proofs.+put_committers.Given as goal

abbrev pub decreases-put_committers : goal.decreases-put_committers
decreases-put_committers l = length l.numbers.now
