-- R2: which rows are asked for, those that count or those that count as an update to an object.
use Rattle.std.specs.Prelude.{Bool, cond}
use Rattle.transaction.specs.declared.Edit.{Edit}
use Rattle.model.specs.Store.{Store}
use Rattle.model.specs.Rows.{counts, counts_as_update}

abbrev pub counting : Bool → Store → Edit → Bool
counting update = cond update counts_as_update counts
