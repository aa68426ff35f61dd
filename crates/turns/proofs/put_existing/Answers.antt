use Rattle.turns.proofs.Turned.{kept_fits, kept_put}
use Rattle.turns.proofs.put_existing.Goals as goal

pub put_row_at-requires-clause-fits_row : goal.put_row_at-requires-clause-fits_row
put_row_at-requires-clause-fits_row c = search kept_fits

pub returns : goal.returns
returns c =
    kept_put _ c.args.i c.args.opened _ _ _ c.row_at-row.ensures c.value_of-found.ensures c.observe-kept.ensures _ c.put_row_at.ensures
