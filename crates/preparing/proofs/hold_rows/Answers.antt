use Rattle.preparing.proofs.Holding.{table_named, rows_counted, both_held}
use Rattle.preparing.proofs.hold_rows.Goals as goal

pub hold_names-requires-clause-named : goal.hold_names-requires-clause-named
hold_names-requires-clause-named c =
    search table_named

pub returns : goal.returns
returns c = (search rows_counted, search both_held)
