use Rattle.turns.proofs.Turned.{leafed, leaf_fits}
use Rattle.turns.proofs.put_leaf.Goals as goal

pub put_row_at-requires-clause-fits_row : goal.put_row_at-requires-clause-fits_row
put_row_at-requires-clause-fits_row c = search leaf_fits

pub returns : goal.returns
returns c = search leafed
