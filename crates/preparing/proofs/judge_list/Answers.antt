use Rattle.preparing.proofs.Preparing.{begun_registered, begun_prepared, begun_empty, begun}
use Rattle.preparing.proofs.judge_list.Goals as goal

pub judge_rows-requires-clause-region_value : goal.judge_rows-requires-clause-region_value
judge_rows-requires-clause-region_value c =
    search begun_prepared

pub judge_rows-requires-clause-region_value_2 : goal.judge_rows-requires-clause-region_value_2
judge_rows-requires-clause-region_value_2 c =
    search begun_empty

pub judge_rows-requires-clause-registered : goal.judge_rows-requires-clause-registered
judge_rows-requires-clause-registered c =
    search begun_registered

pub returns : goal.returns
returns c = search begun
