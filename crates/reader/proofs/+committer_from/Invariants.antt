-- `committer_from` meets its contract: the first committer, or what it finds behind it. The measure is the place. Assumes nothing.
use Rattle.reader.proofs.+committer_from.Given as goal

abbrev pub decreases-committer_from : goal.decreases-committer_from
decreases-committer_from l = l.place
