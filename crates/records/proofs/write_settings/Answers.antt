use Rattle.std.proofs.lemmas.Result.{err_from_is_err_and}
use Rattle.records.proofs.Laws.{write_refused, write_written}
use Rattle.records.proofs.write_settings.Goals as goal

pub returns-in_err-length : goal.returns-in_err-length
returns-in_err-length c =
    let p = err_from_is_err_and c.from_residual.result c.from_residual.ensures.1 in
    rw (p.1, p.2) (write_refused _ _ _ _ _ c.write.ensures _ c.in_err-length.was)

pub returns : goal.returns
returns c = write_written _ _ _ _ _ c.write.ensures _ _ c.in_ok-length.was c.done.ensures
