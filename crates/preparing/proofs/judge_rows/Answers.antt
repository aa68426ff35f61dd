use Rattle.std.proofs.lemmas.Result.{err_from_is_err_and}
use Rattle.preparing.proofs.Judging.{rows_refused, rows_upward, rows_judged}
use Rattle.preparing.proofs.judge_rows.Goals as goal

pub returns-in_err-split_rows : goal.returns-in_err-split_rows
returns-in_err-split_rows c =
    let p = err_from_is_err_and c.from_residual.result c.from_residual.ensures.1 in
    rw (p.1, p.2) (rows_refused _ _ _ _ c.split_rows.ensures _ c.in_err-split_rows.was)

pub judge_split-requires-clause-upward : goal.judge_split-requires-clause-upward
judge_split-requires-clause-upward c = rows_upward _ _ _ _ c.split_rows.ensures c.in_ok-split_rows.was

pub returns : goal.returns
returns c = rows_judged _ _ _ _ c.split_rows.ensures c.in_ok-split_rows.was _ _ c.judge_split.ensures
