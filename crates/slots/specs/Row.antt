-- The form of a row in a slot of 36 bytes: its own list of numbers, each at its place.
use Rattle.target.specs.declared.Target.{Target}
use Rattle.std.specs.Prelude.{◌≡◌, false, cond, List, [], ◌∷◌, ℕ, zero, suc, ◌+◌, ◌^◌, ◌<◌, get_or, eqb, Option, Some, None}
use Rattle.word.specs.Be.{cut, val}
use Rattle.word.specs.Fields.{fields, unfields}
use Rattle.target.specs.Fields.{target_byte, target_number}
use Rattle.transaction.specs.declared.Edit.{Edit}
use Rattle.transaction.specs.Change.{new_value, previous_value, expected_of, log_of, force_of, message_of}
use Rattle.transaction.specs.Fields.{change_byte, ref_log_byte, previous_byte, ref_log_of, previous_of}
use Rattle.transaction.specs.declared.PreviousValue.{PreviousValue}
use Rattle.transaction.specs.declared.Change.{Change}
use Rattle.model.specs.EditList.{◌>>=◌, flag_of, change_of}
use Rattle.model.specs.Numbers.{flag}
use Rattle.slots.specs.Values.{target_from, FitsTarget}

-- name, kind, log, force, message, expected, expected target, new target, has a parent, parent's place, leaf-previous
abbrev pub row_widths : List ℕ
row_widths = 2 ∷ 1 ∷ 1 ∷ 1 ∷ 2 ∷ 1 ∷ 1 ∷ 8 ∷ 1 ∷ 8 ∷ 1 ∷ 1 ∷ 8 ∷ []

-- whether there is a parent, and its place
abbrev pub parent_flag : Option ℕ → ℕ
parent_flag None = 0
parent_flag (Some j) = 1

abbrev pub parent_place : Option ℕ → ℕ
parent_place None = 0
parent_place (Some j) = j

abbrev pub row_numbers : Edit → List ℕ
row_numbers r =
    r.update.name.0
    ∷ change_byte r.update.change
    ∷ ref_log_byte (log_of r.update.change)
    ∷ flag (force_of r.update.change)
    ∷ message_of r.update.change
    ∷ previous_byte (expected_of r.update.change)
    ∷ target_byte (previous_value r.update.change)
    ∷ target_number (previous_value r.update.change)
    ∷ target_byte (new_value r.update.change)
    ∷ target_number (new_value r.update.change)
    ∷ parent_flag r.parent_index
    ∷ parent_place r.parent_index
    ∷ r.leaf_referent_previous_oid.0
    ∷ []

unfoldable pub row_form : Edit → List ℕ
row_form r = fields row_widths (row_numbers r)

-- no parent has place 0 beside it
abbrev pub parent_from : ℕ → ℕ → Option (Option ℕ)
parent_from zero j = cond (eqb j 0) (Some None) None
parent_from (suc zero) j = Some (Some j)
parent_from (suc (suc k)) j = None

-- the row of thirteen numbers, read as a record of the edit list is; it is not dereferenced
unfoldable pub row_from : List ℕ → Option Edit
row_from xs = do
  log ← (ref_log_of (get_or xs 2 0))
  force ← flag_of (get_or xs 3 0)
  was ← target_from (get_or xs 6 0) (get_or xs 7 0)
  expected ← (previous_of (get_or xs 5 0) was)
  new ← target_from (get_or xs 8 0) (get_or xs 9 0)
  change ← change_of (get_or xs 1 0) log force expected new (get_or xs 4 0)
  parent ← parent_from (get_or xs 10 0) (get_or xs 11 0)
  Some
      (record {
        update = record { change = change; name = record { 0 = get_or xs 0 0 }; deref = false };
        parent_index = parent;
        leaf_referent_previous_oid = record { 0 = get_or xs 12 0 };
      })

unfoldable pub row_in : List ℕ → Option Edit
row_in r = row_from (unfields 0 row_widths r)

-- ---- the parts of a row in its slot

-- the target of the nine bytes from the a-th on
unfoldable pub slot_target : ℕ → List ℕ → Option (Option Target)
slot_target a r = target_from (val (cut a 1 r)) (val (cut (a + 1) 8 r))

unfoldable pub slot_expected : List ℕ → Option PreviousValue
slot_expected r = do
  was ← slot_target 8 r
  (previous_of (val (cut 7 1 r)) was)

unfoldable pub slot_change : List ℕ → Option Change
slot_change r = do
  log ← (ref_log_of (val (cut 3 1 r)))
  force ← flag_of (val (cut 4 1 r))
  expected ← slot_expected r
  new ← slot_target 17 r
  change_of (val (cut 2 1 r)) log force expected new (val (cut 5 2 r))

unfoldable pub slot_parent : List ℕ → Option (Option ℕ)
slot_parent r = parent_from (val (cut 26 1 r)) (val (cut 27 1 r))

-- ---- a row that its bytes can hold

abbrev pub FitsOption : Option Target → Type 0
FitsOption None = Unit {0}
FitsOption (Some t) = FitsTarget t

abbrev pub FitsParent : Option ℕ → Type 0
FitsParent None = Unit {0}
FitsParent (Some j) = j < 2 ^ 8

pub record FitsRow (r : Edit) : Type 0 where
  pub name : r.update.name.0 < 2 ^ 16
  pub deref : r.update.deref ≡ false
  pub message : message_of r.update.change < 2 ^ 16
  pub was : FitsOption (previous_value r.update.change)
  pub new : FitsOption (new_value r.update.change)
  pub parent : FitsParent r.parent_index
  pub leaf : r.leaf_referent_previous_oid.0 < 2 ^ 64
