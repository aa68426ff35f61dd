use Rattle.splits.proofs.Edits.{added_start, added_more, added_end, fits_edit}
use Rattle.splits.proofs.add_edits.Goals as goal

pub loop-i-init : goal.loop-i-init
loop-i-init c = search added_start

pub add_row-requires-clause-fits_row : goal.add_row-requires-clause-fits_row
add_row-requires-clause-fits_row c =
    search fits_edit

pub loop-i-preserved : goal.loop-i-preserved
loop-i-preserved c = search added_more

pub returns : goal.returns
returns c = search added_end
