-- When two edits, and the parts of them, are the same: the Rust's derived equality.
use Rattle.std.specs.Prelude.{Bool, false, ◌&&◌, eqb}
use Rattle.std.specs.Bool.{beq}
use Rattle.target.specs.declared.Target.{Target}
use Rattle.target.specs.Target.{same, same_name, same_option}
use Rattle.transaction.specs.declared.RefLog.{RefLog}
use Rattle.transaction.specs.declared.LogChange.{LogChange}
use Rattle.transaction.specs.declared.PreviousValue.{PreviousValue}
use Rattle.transaction.specs.declared.Change.{Change}
use Rattle.transaction.specs.declared.Change.TheVariants.{Update, Delete}
use Rattle.transaction.specs.declared.RefEdit.{RefEdit}
use Rattle.transaction.specs.Fields.{ref_log_byte, previous_byte}
use Rattle.transaction.specs.Change.{expected_target}

abbrev pub same_ref_log : RefLog → RefLog → Bool
same_ref_log a b = eqb (ref_log_byte a) (ref_log_byte b)

abbrev pub same_log_change : LogChange → LogChange → Bool
same_log_change a b =
    same_ref_log a.mode b.mode && beq a.force_create_reflog b.force_create_reflog && eqb a.message b.message

abbrev pub same_previous : PreviousValue → PreviousValue → Bool
same_previous a b = eqb (previous_byte a) (previous_byte b) && same_option (expected_target a) (expected_target b)

abbrev pub same_update : LogChange → PreviousValue → Target → LogChange → PreviousValue → Target → Bool
same_update log expected new log' expected' new' = same_log_change log log' && same_previous expected expected' && same new new'

abbrev pub same_delete : PreviousValue → RefLog → PreviousValue → RefLog → Bool
same_delete expected log expected' log' = same_previous expected expected' && same_ref_log log log'

abbrev pub same_change : Change → Change → Bool
same_change (Update log expected new) (Update log' expected' new') = same_update log expected new log' expected' new'
same_change (Update log expected new) (Delete expected' log') = false
same_change (Delete expected log) (Update log' expected' new') = false
same_change (Delete expected log) (Delete expected' log') = same_delete expected log expected' log'

abbrev pub same_ref_edit : RefEdit → RefEdit → Bool
same_ref_edit a b = same_change a.change b.change && same_name a.name b.name && beq a.deref b.deref
