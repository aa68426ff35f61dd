-- A record of the edit list, read by its 27 bytes. A link's number is read by its low 16 bits: whether a record is well formed
-- does not depend on it, and once every number is known to be registered it is the number.
use Rattle.target.specs.declared.Target.{Target}
use Rattle.std.specs.Prelude.{cond, List, ℕ, zero, suc, ◌+◌, ◌%◌, eqb, Option, Some, None}
use Rattle.word.specs.Be.{cut, val}
use Rattle.target.specs.declared.Target.TheVariants.{Object, Symbolic}
use Rattle.transaction.specs.declared.PreviousValue.{PreviousValue}
use Rattle.transaction.specs.declared.Change.{Change}
use Rattle.transaction.specs.declared.RefEdit.{RefEdit}
use Rattle.transaction.specs.Fields.{ref_log_of, previous_of}
use Rattle.model.specs.EditList.{◌>>=◌, flag_of, change_of, byte_at}

abbrev pub target_low : ℕ → ℕ → Option (Option Target)
target_low zero n = cond (eqb n 0) (Some None) None
target_low (suc zero) n = cond (eqb n 0) None (Some (Some (Object (record { 0 = n }))))
target_low (suc (suc zero)) n = Some (Some (Symbolic (record { 0 = n % 65536 })))
target_low (suc (suc (suc k))) n = None

-- the parts of a record, by a reading of targets
unfoldable pub target_by : (ℕ → ℕ → Option (Option Target)) → ℕ → List ℕ → Option (Option Target)
target_by t a r = t (byte_at a r) (val (cut (a + 1) 8 r))

unfoldable pub expected_by : (ℕ → ℕ → Option (Option Target)) → List ℕ → Option PreviousValue
expected_by t r = do
  was ← target_by t 5 r
  (previous_of (byte_at 4 r) was)

unfoldable pub change_by : (ℕ → ℕ → Option (Option Target)) → List ℕ → Option Change
change_by t r = do
  log ← (ref_log_of (byte_at 2 r))
  force ← flag_of (byte_at 3 r)
  expected ← expected_by t r
  new ← target_by t 14 r
  change_of (byte_at 0 r) log force expected new (val (cut 25 2 r))

unfoldable pub edit_by : (ℕ → ℕ → Option (Option Target)) → List ℕ → Option RefEdit
edit_by t r = do
  deref ← flag_of (byte_at 1 r)
  change ← change_by t r
  Some (record { change = change; name = record { 0 = val (cut 23 2 r) }; deref = deref })
