use Rattle.word.proofs.Flags.{all_down}
use Rattle.nests.proofs.Rows.{rows_under, rows_over, rows_among}
use Rattle.nests.proofs.rows_clear.Goals as goal

pub flag_rows-requires-clause-flags : goal.flag_rows-requires-clause-flags
flag_rows-requires-clause-flags c =
    search all_down

pub returns-then-not-none_under : goal.returns-then-not-none_under
returns-then-not-none_under c = search rows_under

pub flag_rows-requires-2-clause-flags : goal.flag_rows-requires-2-clause-flags
flag_rows-requires-2-clause-flags c =
    search all_down

pub returns-then-not-none_under-2 : goal.returns-then-not-none_under-2
returns-then-not-none_under-2 c = search rows_over

pub returns : goal.returns
returns c = search rows_among
