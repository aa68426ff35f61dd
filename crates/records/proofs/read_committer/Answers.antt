use Rattle.std.proofs.lemmas.Result.{err_from_is_err_and}
use Rattle.records.proofs.Laws.{committer_refused, committer_found_lem}
use Rattle.records.proofs.read_committer.Goals as goal

pub returns-in_err-s : goal.returns-in_err-s
returns-in_err-s c =
    let p = err_from_is_err_and c.from_residual.result c.from_residual.ensures.1 in
    rw (p.1, p.2) (committer_refused _ _ _ _ c.read_committer.ensures _ c.in_err-s.was)

pub returns : goal.returns
returns c = committer_found_lem _ _ _ _ c.read_committer.ensures _ _ c.in_ok-s.was c.done.ensures
