-- The ordered writes of commit, W1 to W4, as one list, and what a write does to the store.
use Rattle.target.specs.declared.ObjectNumber.{ObjectNumber}
use Rattle.std.specs.Prelude.{Bool, ◌&&◌, ◌||◌, not, cond, List, [], ◌∷◌, ◌++◌, map, Option, Some, None}
use Rattle.target.specs.declared.NameNumber.{NameNumber}
use Rattle.target.specs.declared.Target.{Target}
use Rattle.target.specs.declared.Target.TheVariants.{Object, Symbolic}
use Rattle.transaction.specs.declared.PackedRefs.{PackedRefs}
use Rattle.transaction.specs.declared.Edit.{Edit}
use Rattle.transaction.specs.Change.{new_value, is_log_only, is_delete}
use Rattle.model.specs.declared.Loose.TheVariants as loose
use Rattle.model.specs.declared.Line.{Line}
use Rattle.model.specs.Basic.{is_empty, collect, select, when}
use Rattle.model.specs.Store.{Store, Entry, entry_of, is_of, is_none, is_packed, rows_in, mode_in, put_loose, put_packed, change_at, change_entry, with_entries, with_lines}
use Rattle.model.specs.Rows.{name_in, change_in, counts, opens, packs_updates, is_direct, keeps_lock}
use Rattle.model.specs.Due.{Stamp, has_lines, due_line}

-- a name's packed value set, or removed
pub record PackedEdit : Type 0 where
  pub name : NameNumber
  pub value : Option ObjectNumber

pub data Write : Type 0 where
  append_line : Line → Write
  write_loose : NameNumber → Target → Write
  remove_log : NameNumber → Write
  write_packed : List PackedEdit → Write
  remove_loose : NameNumber → Write

-- ---- the list

-- W1, update rows in order: the log line if due, then the loose value if the lock is kept, the row is not log-only and not
-- direct
abbrev pub loose_write : NameNumber → Option Target → List Write
loose_write n None = []
loose_write n (Some t) = write_loose n t ∷ []

abbrev pub writes_loose : Store → PackedRefs → Edit → Bool
writes_loose s mode r = keeps_lock s mode r && not (is_log_only (change_in r)) && not (is_direct s mode r)

unfoldable pub w1 : Stamp → Store → PackedRefs → Edit → List Write
w1 stamp s mode r =
    map append_line (due_line stamp s r) ++ cond (writes_loose s mode r) (loose_write (name_in r) (new_value (change_in r))) []

-- W2, delete rows in order: remove the log, if any, of that name
unfoldable pub w2 : Store → Edit → List Write
w2 s r = when (is_delete (change_in r) && has_lines s (name_in r)) (remove_log (name_in r))

-- W3: objects of counting updates (modes 2, 3) set, counting deletions with a packed value removed
abbrev pub packed_set : NameNumber → Option Target → List PackedEdit
packed_set n None = []
packed_set n (Some (Object o)) = record { name = n; value = Some o } ∷ []
packed_set n (Some (Symbolic m)) = []

unfoldable pub packed_edit : Store → PackedRefs → Edit → List PackedEdit
packed_edit s mode r =
    cond (counts s r)
    (cond (packs_updates mode) (packed_set (name_in r) (new_value (change_in r))) []
    ++ when (is_delete (change_in r) && is_packed (entry_of s (name_in r)).packed) (record { name = name_in r; value = None }))
    []

abbrev pub packed_edits : Store → PackedRefs → List Edit → List PackedEdit
packed_edits s mode rows = collect (packed_edit s mode) rows

-- W3: one packed write, if opened and not empty
unfoldable pub w3 : Store → PackedRefs → List Edit → List Write
w3 s mode rows =
    when (opens s mode rows && not (is_empty (packed_edits s mode rows))) (write_packed (packed_edits s mode rows))

-- W4, in row order: remove an existing loose value (broken included) for deletions not log-only and for direct rows not
-- log-only
unfoldable pub w4 : Store → PackedRefs → Edit → List Write
w4 s mode r =
    when
    ((is_delete (change_in r) || is_direct s mode r) && not (is_log_only (change_in r)) && not (is_none (entry_of s (name_in r)).loose))
    (remove_loose (name_in r))

unfoldable pub ordered_writes : Stamp → Store → PackedRefs → List Edit → List Write
ordered_writes stamp s mode rows =
    collect (w1 stamp s mode) rows ++ (collect (w2 s) rows ++ (w3 s mode rows ++ collect (w4 s mode) rows))

-- the ordered writes of what is prepared
abbrev pub writes : Stamp → Store → List Write
writes stamp s = ordered_writes stamp s (mode_in s.prepared) (rows_in s.prepared)

-- ---- applying a write

abbrev pub apply_packed : List PackedEdit → List Entry → List Entry
apply_packed [] es = es
apply_packed (p ∷ ps) es = apply_packed ps (change_at (put_packed p.value) p.name.0 es)

unfoldable pub apply : Write → Store → Store
apply (append_line l) s = with_lines s (s.lines ++ (l ∷ []))
apply (write_loose n t) s = change_entry (put_loose (loose.Target t)) n.0 s
apply (remove_log n) s = with_lines s (select (λ (l : Line). not (is_of n l)) s.lines)
apply (write_packed ps) s = with_entries s (apply_packed ps s.entries)
apply (remove_loose n) s = change_entry (put_loose loose.None) n.0 s
