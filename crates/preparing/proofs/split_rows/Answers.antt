use Rattle.writers.proofs.OtherRows.{still_prepared, rows_seen}
use Rattle.preparing.proofs.Judging.{split_taken}
use Rattle.preparing.proofs.split_rows.Goals as goal

pub extend_with_splits_of_symbolic_refs-requires-clause-region_value : goal.extend_with_splits_of_symbolic_refs-requires-clause-region_value
extend_with_splits_of_symbolic_refs-requires-clause-region_value c =
    search still_prepared

pub extend_with_splits_of_symbolic_refs-requires-clause-region_value_2 : goal.extend_with_splits_of_symbolic_refs-requires-clause-region_value_2
extend_with_splits_of_symbolic_refs-requires-clause-region_value_2 c =
    search rows_seen

pub returns : goal.returns
returns c = search split_taken
