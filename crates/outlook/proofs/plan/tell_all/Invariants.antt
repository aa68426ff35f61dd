use Rattle.std.proofs.Common.{◌*◌, ◌≤◌}
use Rattle.outlook.proofs.plan.tell_all.Given as goal

abbrev pub invariant-loop-k : goal.invariant-loop-k
invariant-loop-k g l = l.made ≤ 2 * l.k
