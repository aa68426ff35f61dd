use Rattle.edits.specs.Edits.{edits_in}
use Rattle.splits.proofs.Model.{asked}
use Rattle.splits.proofs.Table.{Far}
use Rattle.splits.proofs.split_first.Given as goal

abbrev pub invariant-loop-i : goal.invariant-loop-i
invariant-loop-i l = Far (asked (edits_in l.list)) l.end 0 l.initial.region l.i l.region
