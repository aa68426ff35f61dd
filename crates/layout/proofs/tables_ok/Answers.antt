use Rattle.layout.proofs.Laws.{names_fail, looses_fail, packeds_fail, locks_fail, rows_fail, tables_rest}
use Rattle.layout.proofs.Laws.{names_few, rows_few, lines_few}
use Rattle.layout.proofs.tables_ok.Goals as goal

pub table_ok-requires-clause-n_bound : goal.table_ok-requires-clause-n_bound
table_ok-requires-clause-n_bound c =
    search names_few

pub returns-then-not-table_ok : goal.returns-then-not-table_ok
returns-then-not-table_ok c = search names_fail

pub table_ok-requires-2-clause-n_bound : goal.table_ok-requires-2-clause-n_bound
table_ok-requires-2-clause-n_bound c =
    search names_few

pub returns-then-not-table_ok-2 : goal.returns-then-not-table_ok-2
returns-then-not-table_ok-2 c = search looses_fail

pub table_ok-requires-3-clause-n_bound : goal.table_ok-requires-3-clause-n_bound
table_ok-requires-3-clause-n_bound c =
    search names_few

pub returns-then-not-table_ok-3 : goal.returns-then-not-table_ok-3
returns-then-not-table_ok-3 c = search packeds_fail

pub table_ok-requires-4-clause-n_bound : goal.table_ok-requires-4-clause-n_bound
table_ok-requires-4-clause-n_bound c =
    search names_few

pub returns-then-not-table_ok-4 : goal.returns-then-not-table_ok-4
returns-then-not-table_ok-4 c = search locks_fail

pub table_ok-requires-5-clause-n_bound : goal.table_ok-requires-5-clause-n_bound
table_ok-requires-5-clause-n_bound c =
    search rows_few

pub returns-then-not-table_ok-5 : goal.returns-then-not-table_ok-5
returns-then-not-table_ok-5 c = search rows_fail

pub table_ok-requires-6-clause-n_bound : goal.table_ok-requires-6-clause-n_bound
table_ok-requires-6-clause-n_bound c =
    search lines_few

pub returns : goal.returns
returns c = search tables_rest
