use Rattle.region.specs.Region.{view}
use Rattle.model.specs.Store.{rows_in}
use Rattle.model.specs.Rows.{keeps_lock}
use Rattle.rows.proofs.Gather.{Gathering}
use Rattle.kept.proofs.Laws.{of_row}
use Rattle.kept.proofs.flag_rows.Given as goal

abbrev pub invariant-loop-i : goal.invariant-loop-i
invariant-loop-i l = Gathering of_row (keeps_lock (view l.region) l.mode) (rows_in (view l.region).prepared) l.i l.flags
