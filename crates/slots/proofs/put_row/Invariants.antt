use Rattle.slots.proofs.Laws.{Far}
use Rattle.slots.proofs.put_row.Given as goal

-- `put_row` meets its contract: the numbers before place i stand before byte `at`. Assumes nothing.
abbrev pub invariant-loop-i : goal.invariant-loop-i
invariant-loop-i l = Far l.initial.slot l.p l.i l.at l.slot
