use Rattle.layout.proofs.Laws.{mode_bad, rows_bad, counts_rest}
use Rattle.layout.proofs.counts_ok.Goals as goal

pub returns-then-mode-gt-DELETIONS_AND_NON_SYMBOLIC_UPDATES_REMOVE_LOOSE_SOURCE_REFERENCE : goal.returns-then-mode-gt-DELETIONS_AND_NON_SYMBOLIC_UPDATES_REMOVE_LOOSE_SOURCE_REFERENCE
returns-then-mode-gt-DELETIONS_AND_NON_SYMBOLIC_UPDATES_REMOVE_LOOSE_SOURCE_REFERENCE c = search mode_bad

pub returns-then-rows-most_rows : goal.returns-then-rows-most_rows
returns-then-rows-most_rows c = search rows_bad

pub returns : goal.returns
returns c = search counts_rest
