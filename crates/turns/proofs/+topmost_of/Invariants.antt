-- `topmost_of` meets its contract: the climb from row to parent. The measure is the place. Assumes nothing.
use Rattle.turns.proofs.+topmost_of.Given as goal

abbrev pub decreases-topmost_of : goal.decreases-topmost_of
decreases-topmost_of l = l.i
