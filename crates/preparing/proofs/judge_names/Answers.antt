use Rattle.std.proofs.lemmas.Result.{err_from_is_err_and}
use Rattle.preparing.proofs.Judging.{names_twice, names_held_lem, names_free}
use Rattle.preparing.proofs.judge_names.Goals as goal

pub returns-in_err-assure_one_name_has_one_edit : goal.returns-in_err-assure_one_name_has_one_edit
returns-in_err-assure_one_name_has_one_edit c =
    let p = err_from_is_err_and c.from_residual.result c.from_residual.ensures.1 in
    rw (p.1, p.2) (names_twice _ _ _ c.assure_one_name_has_one_edit.ensures _ c.in_err-assure_one_name_has_one_edit.was)

pub returns-then-is_table_held : goal.returns-then-is_table_held
returns-then-is_table_held c =
    names_held_lem _ _ _ c.assure_one_name_has_one_edit.ensures c.in_ok-assure_one_name_has_one_edit.was _ c.is_table_held.ensures
    c.if-is_table_held.true

pub returns : goal.returns
returns c =
    names_free _ _ _ c.assure_one_name_has_one_edit.ensures c.in_ok-assure_one_name_has_one_edit.was _ c.is_table_held.ensures
    c.if-is_table_held.false
