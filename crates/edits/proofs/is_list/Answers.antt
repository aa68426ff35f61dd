use Rattle.edits.proofs.Lists.{not_framed, are_edits}
use Rattle.edits.proofs.is_list.Goals as goal

pub returns-then-is_framed : goal.returns-then-is_framed
returns-then-is_framed c = are_edits _ _ _ c.is_framed.ensures c.if-is_framed.true c.are_edits.ensures

pub returns-else-is_framed : goal.returns-else-is_framed
returns-else-is_framed c = not_framed _ _ c.is_framed.ensures c.if-is_framed.false
