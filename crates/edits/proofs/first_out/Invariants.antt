use mathlib.Core.Path.{◌≡◌}
use Rattle.edits.proofs.Lists.{Ahead, Rest}
use Rattle.edits.proofs.first_out.Given as goal

abbrev pub invariant-loop-record : goal.invariant-loop-record
invariant-loop-record l = Rest (Ahead l.names l.list) l.list l.record-iterator.rest.now × (l.record-iterator.size ≡ 27)
