use borrow.Author.Rules.{rules}
use Rattle.edits.proofs.Lists.{formed, counted}
use Rattle.edits.proofs.count_edits.Goals as goal

pub byte_at-requires : goal.byte_at-requires
byte_at-requires c = let f = formed c.args.list.now c.requires in search rules

pub returns : goal.returns
returns c = counted c.args.list.now _ c.requires c.byte_at.ensures
