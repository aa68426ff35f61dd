-- Preparing, rule by rule: R2 to R5 and the refusals in order.
use Rattle.target.specs.declared.Target.{Target}
use Rattle.std.specs.Prelude.{Bool, ◌&&◌, cond, List, [], ◌∷◌, map, ℕ, zero, suc, ◌+◌, length, set, ltb, Option, Some, None, Result, Ok, Err}
use Rattle.target.specs.declared.ObjectNumber.{ObjectNumber}
use Rattle.target.specs.declared.Found.{Found}
use Rattle.target.specs.Found.{value_in}
use Rattle.transaction.specs.declared.PreviousValue.TheVariants.{MustExistAndMatch}
use Rattle.transaction.specs.declared.Change.{Change}
use Rattle.transaction.specs.declared.Change.TheVariants.{Update, Delete}
use Rattle.transaction.specs.declared.PackedRefs.{PackedRefs}
use Rattle.transaction.specs.declared.RefEdit.{RefEdit}
use Rattle.transaction.specs.declared.Edit.{Edit}
use Rattle.transaction.specs.Change.{previous_oid, row_of}
use Rattle.transaction.specs.Fields.{packed_refs_of}
use Rattle.model.specs.declared.Lock.TheVariants.{Foreign, Ours}
use Rattle.model.specs.declared.Refusal.{Refusal}
use Rattle.model.specs.declared.Refusal.TheVariants.{Malformed, NotRegistered, PackedTransactionAcquire, LockAcquire, LogFull, WrongState, NameConflict}
use Rattle.model.specs.Basic.{any, collect}
use Rattle.model.specs.Store.{Store, Entry, Prepared, count, entry_of, is_prepared, is_lock, put_lock, change_at}
use Rattle.model.specs.Read.{found_of}
use Rattle.model.specs.Rows.{name_in, change_in, row_at, ancestors, topmost, counts, opens, keeps_lock}
use Rattle.model.specs.EditList.{edits_of, numbers_of, first_out}
use Rattle.model.specs.Outcome.{◌>>=◌, ◌>>◌, refuse_if, or_refuse}
use Rattle.model.specs.Split.{splits, one_name_one_edit}
use Rattle.model.specs.Beneath.{conflicts}
use Rattle.model.specs.Judge.{judge}
use Rattle.model.specs.Due.{due_lines}

-- ---- 3

abbrev pub or_not_registered : Option ℕ → Result (Unit {0}) Refusal
or_not_registered None = Ok tt
or_not_registered (Some n) = Err (NotRegistered n)

-- 3: a name number not registered, the first by place in the list
unfoldable pub registered : Store → List RefEdit → Result (Unit {0}) Refusal
registered s edits = or_not_registered (first_out (count s) (collect numbers_of edits))

-- ---- R2

-- R2: with a counting row a foreign packed lock is refused with 7; otherwise: is the packed table opened?
unfoldable pub opening : Store → PackedRefs → List Edit → Result Bool Refusal
opening s mode rows =
    cond (any (counts s) rows && is_lock Foreign s.packed_lock) (Err PackedTransactionAcquire) (Ok (opens s mode rows))

-- ---- R3: each row in order

-- 8: the name's lock is foreign; the name is that of the row's topmost ancestor
abbrev pub lock_test : Store → List Edit → ℕ → Option Refusal
lock_test s rows i = cond (is_lock Foreign (entry_of s (name_in (row_at rows i))).lock) (Some (LockAcquire (topmost rows i))) None

-- R3: the existing value, and where it is found; without opening, packed values are not seen
abbrev pub existing_found : Store → Bool → Edit → Found
existing_found s opened r = found_of opened (entry_of s (name_in r))

abbrev pub existing : Store → Bool → Edit → Option Target
existing s opened r = value_in (existing_found s opened r)

-- 25: a name above or beneath is in the way; the name is the row's own
abbrev pub conflict_test : Store → PackedRefs → Bool → List Edit → ℕ → Option Refusal
conflict_test s mode opened rows i =
    cond (conflicts s mode rows i (existing s opened (row_at rows i))) (Some (NameConflict (name_in (row_at rows i)))) None

-- a row's turn is a list of tests, the first refusal deciding: 25 before 8 before 9 to 13
abbrev pub turn_tests : Store → PackedRefs → Bool → List Edit → ℕ → List (Option Refusal)
turn_tests s mode opened rows i =
    conflict_test s mode opened rows i
    ∷ lock_test s rows i
    ∷ judge (name_in (row_at rows i)) (change_in (row_at rows i)) (existing s opened (row_at rows i))
    ∷ []

abbrev pub first_refusal : List (Option Refusal) → Result (Unit {0}) Refusal
first_refusal [] = Ok tt
first_refusal (None ∷ ts) = first_refusal ts
first_refusal (Some r ∷ ts) = Err r

-- R3: an existing value then replaces expected as MustExistAndMatch
abbrev pub observing : Change → Option Target → Change
observing c None = c
observing (Update log expected new) (Some t) = Update log (MustExistAndMatch t) new
observing (Delete expected log) (Some t) = Delete (MustExistAndMatch t) log

abbrev pub observed : Edit → Option Target → Edit
observed r x = record {
  update = record { change = observing (change_in r) x; name = name_in r; deref = r.update.deref };
  parent_index = r.parent_index;
  leaf_referent_previous_oid = r.leaf_referent_previous_oid;
}

-- R5: if the row's expected is 3 or 4 with an object, that object becomes the leaf-previous of every ancestor
abbrev pub with_leaf : ObjectNumber → Edit → Edit
with_leaf o r = record { update = r.update; parent_index = r.parent_index; leaf_referent_previous_oid = o }

abbrev pub handed_to : List ℕ → ObjectNumber → List Edit → List Edit
handed_to [] o rows = rows
handed_to (p ∷ ps) o rows = handed_to ps o (set rows p (with_leaf o (row_at rows p)))

abbrev pub handed_on : Option ObjectNumber → List ℕ → List Edit → List Edit
handed_on None ps rows = rows
handed_on (Some o) ps rows = handed_to ps o rows

unfoldable pub turned : Store → Bool → List Edit → ℕ → List Edit
turned s opened rows i =
    let r : Edit = observed (row_at rows i) (existing s opened (row_at rows i)) in
    handed_on (previous_oid (change_in r)) (ancestors rows i) (set rows i r)

unfoldable pub turn : Store → PackedRefs → Bool → List Edit → ℕ → Result (List Edit) Refusal
turn s mode opened rows i = first_refusal (turn_tests s mode opened rows i) >> Ok (turned s opened rows i)

-- k rows from place i on
unfoldable pub turns_from : Store → PackedRefs → Bool → ℕ → ℕ → List Edit → Result (List Edit) Refusal
turns_from s mode opened zero i rows = Ok rows
turns_from s mode opened (suc k) i rows = turn s mode opened rows i >>= λ next. turns_from s mode opened k (i + 1) next

-- ---- the rows of a transaction, or the refusal: 15, 2, 3, 4 or 5, 6, 7, then row by row 25 before 8 before 9 to 13,
-- then 14

unfoldable pub rows_for : List ℕ → ℕ → Store → Result Prepared Refusal
rows_for list number s = do
  refuse_if (is_prepared s.prepared) WrongState
  edits ← or_refuse Malformed (edits_of list)
  mode ← or_refuse Malformed ((packed_refs_of number))
  registered s edits
  split ← splits s (map row_of edits)
  one_name_one_edit s split
  opened ← opening s mode split
  rows ← turns_from s mode opened (length split) 0 split
  refuse_if (ltb 1024 (length s.lines + length (due_lines s rows))) LogFull
  Ok (record { mode = mode; rows = rows })

-- ---- what preparing leaves

-- R4: the locks that rows keep are ours
abbrev pub holding : Store → PackedRefs → List Edit → List Entry → List Entry
holding s mode [] es = es
holding s mode (r ∷ rs) es = holding s mode rs (cond (keeps_lock s mode r) (change_at (put_lock Ours) (name_in r).0 es) es)

-- R2: the packed table's lock is ours where it was opened
unfoldable pub held : Prepared → Store → Store
held p s = record {
  entries = holding s p.mode p.rows s.entries;
  packed_lock = cond (opens s p.mode p.rows) Ours s.packed_lock;
  lines = s.lines;
  setting = s.setting;
  prepared = Some p;
}
