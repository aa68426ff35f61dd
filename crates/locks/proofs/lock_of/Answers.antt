use Rattle.locks.proofs.Laws.{there_near, lock_name_lem, lock_table}
use Rattle.locks.proofs.lock_of.Goals as goal

pub lock_at-requires-clause-n_bound : goal.lock_at-requires-clause-n_bound
lock_at-requires-clause-n_bound c =
    search there_near

pub returns-in-Name : goal.returns-in-Name
returns-in-Name c = search lock_name_lem

pub returns-in-PackedTable : goal.returns-in-PackedTable
returns-in-PackedTable c = search lock_table
