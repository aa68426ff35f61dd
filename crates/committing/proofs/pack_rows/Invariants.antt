use Rattle.committing.proofs.Packing.{Packing}
use Rattle.committing.proofs.pack_rows.Given as goal

abbrev pub invariant-loop-i : goal.invariant-loop-i
invariant-loop-i l = Packing l.initial.region l.mode l.rows l.i l.region
