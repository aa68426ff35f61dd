use Rattle.std.proofs.lemmas.Result.{err_from_is_err_and}
use Rattle.preparing.proofs.Judging.{split_named, split_turned}
use Rattle.preparing.proofs.judge_split.Goals as goal

pub returns-in_err-judge_names : goal.returns-in_err-judge_names
returns-in_err-judge_names c =
    let p = err_from_is_err_and c.from_residual.result c.from_residual.ensures.1 in
    rw (p.1, p.2) (split_named _ _ _ _ c.judge_names.ensures _ c.requires.laid c.in_err-judge_names.was)

pub returns : goal.returns
returns c = split_turned _ _ _ _ c.judge_names.ensures _ _ c.in_ok-judge_names.was c.judge_turns.ensures
