use Rattle.preparing.proofs.Holding.{table_passed, table_held_lem}
use Rattle.preparing.proofs.hold_table.Goals as goal

pub returns-then-opens_table : goal.returns-then-opens_table
returns-then-opens_table c = search table_held_lem

pub returns-else-opens_table : goal.returns-else-opens_table
returns-else-opens_table c = search table_passed
