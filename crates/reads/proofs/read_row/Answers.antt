use Rattle.calls.proofs.Replies.{good_laid, bad_region}
use Rattle.reads.proofs.Laws.{row_far, row_near, row_done}
use Rattle.reads.proofs.read_row.Goals as goal

pub returns-then-not-is_good : goal.returns-then-not-is_good
returns-then-not-is_good c = search bad_region

pub count_rows-requires : goal.count_rows-requires
count_rows-requires c = search good_laid

pub returns-then-place-count_rows : goal.returns-then-place-count_rows
returns-then-place-count_rows c = search row_far

pub row_at-row-requires-clause-laid : goal.row_at-row-requires-clause-laid
row_at-row-requires-clause-laid c =
    search good_laid

pub row_at-row-requires-clause-i_in_bounds : goal.row_at-row-requires-clause-i_in_bounds
row_at-row-requires-clause-i_in_bounds c =
    search row_near

pub opens_table-opened-requires : goal.opens_table-opened-requires
opens_table-opened-requires c = search good_laid

pub found_of-requires : goal.found_of-requires
found_of-requires c = search good_laid

pub returns : goal.returns
returns c = search row_done
