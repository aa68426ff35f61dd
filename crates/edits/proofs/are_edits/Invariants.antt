use mathlib.Core.Path.{◌≡◌}
use Rattle.edits.proofs.Lists.{Left, Rest}
use Rattle.edits.proofs.are_edits.Given as goal

abbrev pub invariant-loop-record : goal.invariant-loop-record
invariant-loop-record l = Rest (Left l.list) l.list l.record-iterator.rest.now × (l.record-iterator.size ≡ 27)
