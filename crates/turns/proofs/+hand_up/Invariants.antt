-- `hand_up` meets its contract: the climb from row to parent. The measure is the place. Assumes nothing.
use Rattle.turns.proofs.+hand_up.Given as goal

abbrev pub decreases-hand_up : goal.decreases-hand_up
decreases-hand_up l = l.i
