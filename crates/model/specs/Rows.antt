-- Rows: what one says, the climb to its ancestors, and what the rules R2 and R4 ask of it.
use Rattle.target.specs.declared.Target.{Target}
use Rattle.std.specs.Prelude.{Bool, ◌&&◌, ◌||◌, not, List, [], ◌∷◌, ℕ, zero, suc, get_or, eqb, leb, Option, Some, None}
use Rattle.target.specs.declared.NameNumber.{NameNumber}
use Rattle.target.specs.Target.{same_option, is_object, is_symbolic}
use Rattle.transaction.specs.declared.Change.{Change}
use Rattle.transaction.specs.declared.PackedRefs.{PackedRefs}
use Rattle.transaction.specs.declared.Edit.{Edit}
use Rattle.transaction.specs.Fields.{packed_refs_number}
use Rattle.transaction.specs.Change.{new_value, is_log_only, is_delete, existing_in}
use Rattle.model.specs.Basic.{any, last_or}
use Rattle.model.specs.Names.{packable}
use Rattle.model.specs.Store.{Store, Entry, no_row, name_of, is_packed}

-- ---- what a row says

abbrev pub name_in : Edit → NameNumber
name_in r = r.update.name

abbrev pub change_in : Edit → Change
change_in r = r.update.change

abbrev pub row_at : List Edit → ℕ → Edit
row_at rows i = get_or rows i no_row

-- ---- the climb from row to parent: it ends, since each parent's place is smaller

abbrev pub climb : ℕ → List Edit → Option ℕ → List ℕ
climb zero rows p = []
climb (suc k) rows None = []
climb (suc k) rows (Some j) = j ∷ climb k rows (row_at rows j).parent_index

-- the places of a row's ancestors, the nearest first
unfoldable pub ancestors : List Edit → ℕ → List ℕ
ancestors rows i = climb i rows (row_at rows i).parent_index

-- the name of the topmost ancestor, its own where it has none
unfoldable pub topmost : List Edit → ℕ → NameNumber
topmost rows i = name_in (row_at rows (last_or i (ancestors rows i)))

-- ---- R2

-- R2: a row counts if it is not log-only and its name is packable
unfoldable pub counts : Store → Edit → Bool
counts s r = not (is_log_only (change_in r)) && packable (name_of s (name_in r))

-- modes 2 and 3 pack updates too
abbrev pub packs_updates : PackedRefs → Bool
packs_updates mode = leb 2 (packed_refs_number mode)

abbrev pub counts_as_update : Store → Edit → Bool
counts_as_update s r = counts s r && is_object (new_value (change_in r))

-- R2: with a counting row the packed table is opened if the mode is 2 or 3 and a counting row updates to an object, or if
-- any packed value exists
unfoldable pub opens : Store → PackedRefs → List Edit → Bool
opens s mode rows =
    any (counts s) rows
    && ((packs_updates mode && any (counts_as_update s) rows) || any (λ (e : Entry). is_packed e.packed) s.entries)

-- ---- R4

-- R4: a row is direct if mode is 3, it is an update to an object, and its name is packable
abbrev pub direct : PackedRefs → List ℕ → Change → Bool
direct mode name c = eqb (packed_refs_number mode) 3 && is_object (new_value c) && packable name

-- R4: an update row keeps its lock if direct, if the new target is symbolic, or if new differs from existing (absent
-- differs); a delete keeps its lock
abbrev pub keeps : PackedRefs → List ℕ → Change → Option Target → Bool
keeps mode name c existing =
    is_delete c || direct mode name c || is_symbolic (new_value c) || not (same_option (new_value c) existing)

unfoldable pub is_direct : Store → PackedRefs → Edit → Bool
is_direct s mode r = direct mode (name_of s (name_in r)) (change_in r)

unfoldable pub keeps_lock : Store → PackedRefs → Edit → Bool
keeps_lock s mode r = keeps mode (name_of s (name_in r)) (change_in r) (existing_in (change_in r))
