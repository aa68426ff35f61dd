-- What src/transaction/mod.rs answers of a change.
use Rattle.target.specs.declared.ObjectNumber.{ObjectNumber}
use Rattle.target.specs.declared.Target.{Target}
use Rattle.std.specs.Prelude.{Bool, true, false, ℕ, Option, Some, None}
use Rattle.target.specs.Target.{try_id}
use Rattle.transaction.specs.declared.RefLog.{RefLog}
use Rattle.transaction.specs.declared.RefLog.TheVariants.{AndReference, Only}
use Rattle.transaction.specs.declared.LogChange.{LogChange}
use Rattle.transaction.specs.declared.PreviousValue.{PreviousValue}
use Rattle.transaction.specs.declared.PreviousValue.TheVariants.{Any, MustExist, MustNotExist, MustExistAndMatch, ExistingMustMatch}
use Rattle.transaction.specs.declared.Change.{Change}
use Rattle.transaction.specs.declared.Change.TheVariants.{Update, Delete}
use Rattle.transaction.specs.declared.RefEdit.{RefEdit}
use Rattle.transaction.specs.declared.Edit.{Edit}

-- a log change that asks for nothing: the reference and its log, no force, message 0
abbrev pub default_log : LogChange
default_log = record { mode = AndReference; force_create_reflog = false; message = 0 }

-- the target that stands with 3 and 4
abbrev pub expected_target : PreviousValue → Option Target
expected_target Any = None
expected_target MustExist = None
expected_target MustNotExist = None
expected_target (MustExistAndMatch t) = Some t
expected_target (ExistingMustMatch t) = Some t

-- what an update sets; a deletion has none
abbrev pub new_value : Change → Option Target
new_value (Update log expected new) = Some new
new_value (Delete expected log) = None

abbrev pub expected_of : Change → PreviousValue
expected_of (Update log expected new) = expected
expected_of (Delete expected log) = expected

-- the previous observed value, of either kind of change
abbrev pub previous_value : Change → Option Target
previous_value c = expected_target (expected_of c)

-- the previous observed value where it is an object (R5)
abbrev pub id_of : Option Target → Option ObjectNumber
id_of None = None
id_of (Some t) = try_id t

abbrev pub previous_oid : Change → Option ObjectNumber
previous_oid c = id_of (previous_value c)

-- what a change says of its log: a deletion has no force and no message
abbrev pub log_change : Change → LogChange
log_change (Update log expected new) = log
log_change (Delete expected log) = record { mode = log; force_create_reflog = false; message = 0 }

abbrev pub log_of : Change → RefLog
log_of c = (log_change c).mode

abbrev pub force_of : Change → Bool
force_of c = (log_change c).force_create_reflog

abbrev pub message_of : Change → ℕ
message_of c = (log_change c).message

abbrev pub is_only : RefLog → Bool
is_only AndReference = false
is_only Only = true

abbrev pub is_log_only : Change → Bool
is_log_only c = is_only (log_of c)

abbrev pub is_delete : Change → Bool
is_delete (Update log expected new) = false
is_delete (Delete expected log) = true

-- of a prepared row, the existing value: expected 3 means that its target was there, anything else that nothing was
abbrev pub matched : PreviousValue → Option Target
matched Any = None
matched MustExist = None
matched MustNotExist = None
matched (MustExistAndMatch t) = Some t
matched (ExistingMustMatch t) = None

abbrev pub existing_in : Change → Option Target
existing_in c = matched (expected_of c)

-- an edit's row as it begins: no parent, no leaf-previous
abbrev pub row_of : RefEdit → Edit
row_of e = record { update = e; parent_index = None; leaf_referent_previous_oid = record { 0 = 0 } }
