use Rattle.rules.proofs.Laws.{top_row, one_up}
use Rattle.rules.proofs.+count_ancestors.Goals as goal

pub returns-in-None : goal.returns-in-None
returns-in-None t c = top_row _ _ _ c.row_at.ensures c.in-None.is

pub returns-in-Some : goal.returns-in-Some
returns-in-Some t c = one_up _ c.args.i _ c.row_at.ensures c.requires.upward _ c.in-Some.is _ c.count_ancestors.ensures
