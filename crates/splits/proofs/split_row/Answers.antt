use Rattle.splits.proofs.Table.{step_none, step_split, room_left}
use Rattle.splits.proofs.Fits.{fits_kept}
use Rattle.splits.proofs.split_row.Goals as goal

pub put_row_at-requires-clause-fits_row : goal.put_row_at-requires-clause-fits_row
put_row_at-requires-clause-fits_row c =
    search fits_kept

pub returns-in_default : goal.returns-in_default
returns-in_default c = search step_none

pub add_row-requires-clause-fits_row : goal.add_row-requires-clause-fits_row
add_row-requires-clause-fits_row c =
    (room_left _ _ _ c.args.follow _ _ _ c.requires.region_value c.row_at-row.ensures c.follow_row-to.ensures c.settle-kept.ensures
    c.put_row_at.ensures _ _ c.requires.laid c.requires.i_in_bounds c.requires.region_len_bound c.in-Some.is c.child.ensures).1.1

pub returns : goal.returns
returns c =
    step_split _ _ _ c.args.follow _ _ _ c.requires.region_value c.row_at-row.ensures c.follow_row-to.ensures c.settle-kept.ensures
    c.put_row_at.ensures _ _ _ c.in-Some.is c.child.ensures c.add_row.ensures
