use Rattle.turns.proofs.Turns.{Far}
use Rattle.turns.proofs.take_turns.Given as goal

abbrev pub invariant-loop-i : goal.invariant-loop-i
invariant-loop-i l = Far l.initial.region l.mode l.opened l.count l.i l.region
