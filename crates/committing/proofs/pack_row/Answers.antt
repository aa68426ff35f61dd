use Rattle.committing.proofs.Packing.{pack_none, pack_set, edit_fits}
use borrow.Author.Rules.{rules}
use Rattle.writes.proofs.Named.{row_named}
use Rattle.committing.proofs.pack_row.Goals as goal

pub packed_edit-requires : goal.packed_edit-requires
packed_edit-requires c = search (rules, row_named)

pub returns-in_default : goal.returns-in_default
returns-in_default c = search pack_none

pub put_packed_at-requires : goal.put_packed_at-requires
put_packed_at-requires c = search (rules, row_named, edit_fits)

pub returns-in-Some : goal.returns-in-Some
returns-in-Some c = search pack_set
