use borrow.Author.Rules.{rules}
use Rattle.rows.proofs.Laws.{any_more, any_here, any_end}
use Rattle.writes.proofs.Named.{row_named}
use Rattle.writes.proofs.Turns.{edits_any, some_edit}
use Rattle.writes.proofs.any_edit.Goals as goal

pub loop-i-init : goal.loop-i-init
loop-i-init c = search edits_any

pub packed_edit-requires : goal.packed_edit-requires
packed_edit-requires c = search (rules, row_named)

pub returns-then-is_some : goal.returns-then-is_some
returns-then-is_some c = search (any_here, some_edit)

pub loop-i-preserved : goal.loop-i-preserved
loop-i-preserved c = search (any_more, some_edit)

pub returns : goal.returns
returns c = search any_end
