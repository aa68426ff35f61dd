use Rattle.word.proofs.Flags.{all_down}
use Rattle.nests.proofs.Laws.{nests_loose, nests_none, nests_rows}
use Rattle.nests.proofs.nests_fine.Goals as goal

pub flag_loose-requires-clause-flags : goal.flag_loose-requires-clause-flags
flag_loose-requires-clause-flags c =
    search all_down

pub returns-then-not-none_under : goal.returns-then-not-none_under
returns-then-not-none_under c = search nests_loose

pub returns-then-count_rows-eq0 : goal.returns-then-count_rows-eq0
returns-then-count_rows-eq0 c = search nests_none

pub returns : goal.returns
returns c = search nests_rows
