-- `count_ancestors` meets its contract: the climb from row to parent. The measure is the place. Assumes nothing.
use Rattle.rules.proofs.+count_ancestors.Given as goal

abbrev pub decreases-count_ancestors : goal.decreases-count_ancestors
decreases-count_ancestors l = l.i
