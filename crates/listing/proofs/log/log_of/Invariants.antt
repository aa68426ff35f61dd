use Rattle.std.proofs.Common.{◌≤◌}
use Rattle.listing.proofs.log.log_of.Given as goal

abbrev pub invariant-loop-i : goal.invariant-loop-i
invariant-loop-i g l = l.place ≤ l.i
