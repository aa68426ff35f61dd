-- What prepare does once its arguments are read: the rows that it comes to, or the refusal (4 to 14); and the locks that it takes.
use Rattle.model.specs.declared.Refusal.{Refusal}
use Rattle.std.specs.Prelude.{◌≡◌, ◌&&◌, cond, List, map, ℕ, ◌+◌, length, ltb, Some, Result, Ok, Err}
use Rattle.transaction.specs.declared.PackedRefs.{PackedRefs}
use Rattle.transaction.specs.declared.RefEdit.{RefEdit}
use Rattle.transaction.specs.declared.Edit.{Edit}
use Rattle.transaction.specs.Change.{row_of}
use Rattle.model.specs.declared.Lock.TheVariants.{Foreign, Ours}
use Rattle.model.specs.declared.Refusal.TheVariants.{PackedTransactionAcquire, LogFull}
use Rattle.model.specs.Basic.{any}
use Rattle.model.specs.Store.{Store, rows_in, mode_in, is_lock, put_lock, change_entry, with_entries, with_packed_lock, with_prepared}
use Rattle.model.specs.Rows.{name_in, counts, opens, keeps_lock}
use Rattle.model.specs.Due.{due_lines}
use Rattle.model.specs.Outcome.{◌>>=◌, ◌>>◌, refuse_if}
use Rattle.model.specs.Split.{splits, one_name_one_edit}
use Rattle.model.specs.Prepare.{registered, turns_from, holding, held}
use Rattle.model.specs.Reply.{Reply}
use Rattle.model.specs.Reply.Reply.{done, refused}
use Rattle.model.specs.Reply.Given.{number}
use Rattle.region.specs.Region.{view, Laid}
use Rattle.writers.specs.Taken.{outcome_by}

-- 6, then 7: a counting row, and a foreign lock on the packed table
unfoldable pub names_judged : Store → List Edit → Result (Unit {0}) Refusal
names_judged s rows = one_name_one_edit s rows >> refuse_if (any (counts s) rows && is_lock Foreign s.packed_lock) PackedTransactionAcquire

-- row by row 25 before 8 before 9 to 13, then 14
unfoldable pub turns_judged : Store → PackedRefs → List Edit → Result (List Edit) Refusal
turns_judged s mode split = do
  rows ← turns_from s mode (opens s mode split) (length split) 0 split
  refuse_if (ltb 1024 (length s.lines + length (due_lines s rows))) LogFull
  Ok rows

unfoldable pub split_judged : Store → PackedRefs → List Edit → Result (List Edit) Refusal
split_judged s mode split = names_judged s split >> turns_judged s mode split

-- 4 or 5, then 6 to 14
unfoldable pub judged_rows : Store → PackedRefs → List RefEdit → Result (List Edit) Refusal
judged_rows s mode edits = splits s (map row_of edits) >>= split_judged s mode

-- 3, then 4 to 14
unfoldable pub list_judged : Store → PackedRefs → List RefEdit → Result (List Edit) Refusal
list_judged s mode edits = registered s edits >> judged_rows s mode edits

-- the region r, made of r₀ with nothing prepared: it holds what passed, and whatever that is, nothing else differs
pub record Begun (r₀ r : List ℕ) (j : (Result (Unit {0}) Refusal)) (mode : PackedRefs) (o : Result (List Edit) Refusal) : Type 0 where
  pub laid : Laid r
  pub seen : view r ≡ with_prepared (view r₀) (Some (record { mode = mode; rows = rows_in (view r).prepared }))
  pub whole : outcome_by j (rows_in (view r).prepared) ≡ o

-- R4: the lock that a row keeps is ours
unfoldable pub held_by : PackedRefs → Edit → Store → Store
held_by mode r s = cond (keeps_lock s mode r) (change_entry (put_lock Ours) (name_in r).0 s) s

-- R4: so are those that all rows keep
unfoldable pub names_held : Store → Store
names_held s = with_entries s (holding s (mode_in s.prepared) (rows_in s.prepared) s.entries)

-- R2: so is the packed table's, where it is opened
unfoldable pub table_held : Store → Store
table_held s = with_packed_lock s (cond (opens s (mode_in s.prepared) (rows_in s.prepared)) Ours s.packed_lock)

-- what the call comes to, once the rows are judged
abbrev pub prepared_with : PackedRefs → Store → Result (List Edit) Refusal → Reply
prepared_with mode s (Err x) = refused x
prepared_with mode s (Ok rows) = done (held (record { mode = mode; rows = rows }) s) (number (length rows))
