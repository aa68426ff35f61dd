use Rattle.edits.specs.Edits.{edits_in}
use Rattle.splits.proofs.Edits.{Added}
use Rattle.splits.proofs.add_edits.Given as goal

abbrev pub invariant-loop-i : goal.invariant-loop-i
invariant-loop-i l = Added (edits_in l.list) l.initial.region l.i l.region
