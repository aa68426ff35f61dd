use Rattle.turns.proofs.Turned.{up_none, under, up_more}
use Rattle.turns.proofs.+hand_up.Goals as goal

pub returns-in_default : goal.returns-in_default
returns-in_default t c = search up_none

pub returns-in-Some : goal.returns-in-Some
returns-in-Some t c =
    let u = under _ c.args.i _ _ c.requires.laid c.requires.i_in_bounds c.requires.upward c.row_at-row.ensures c.in-Some.is in
    up_more u c.args.leaf _ c.put_leaf.ensures _ c.hand_up.ensures
