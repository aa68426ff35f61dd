use Rattle.std.proofs.lemmas.Result.{err_from_is_err_and}
use Rattle.records.proofs.Laws.{settings_refused, settings_read}
use Rattle.records.proofs.read_settings.Goals as goal

pub returns-in_err-s : goal.returns-in_err-s
returns-in_err-s c =
    let p = err_from_is_err_and c.from_residual.result c.from_residual.ensures.1 in
    rw (p.1, p.2) (settings_refused _ _ _ c.read.ensures _ c.in_err-s.was)

pub returns : goal.returns
returns c = settings_read _ _ _ c.read.ensures _ _ c.in_ok-s.was c.done.ensures
