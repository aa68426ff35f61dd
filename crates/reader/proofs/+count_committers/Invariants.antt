-- `count_committers` meets its contract: the first committer, and what it counts behind it. The measure is the room. Assumes nothing.
use Rattle.reader.proofs.+count_committers.Given as goal

abbrev pub decreases-count_committers : goal.decreases-count_committers
decreases-count_committers l = l.room
