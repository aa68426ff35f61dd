use Rattle.locks.proofs.Laws.{there_near, set_name, set_table}
use Rattle.locks.proofs.set_lock.Goals as goal

pub put_lock_at-requires-clause-n_bound : goal.put_lock_at-requires-clause-n_bound
put_lock_at-requires-clause-n_bound c =
    search there_near

pub returns-in-Name : goal.returns-in-Name
returns-in-Name c = search set_name

pub returns-in-PackedTable : goal.returns-in-PackedTable
returns-in-PackedTable c = search set_table
