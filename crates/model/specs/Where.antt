-- 2026-04: what is proved of the places that reads answer. The proofs stand in proofs/Where.antt.
use Rattle.model.specs.declared.Refusal.{Refusal}
use Rattle.std.specs.Prelude.{◌≡◌, true, List, map, ◌⊎◌, ℕ, ◌<◌, length, None, Result, Ok}
use Rattle.target.specs.declared.Found.{Found}
use Rattle.target.specs.Found.{value_in}
use Rattle.target.specs.Fields.{place_number}
use Rattle.transaction.specs.declared.Edit.{Edit}
use Rattle.transaction.specs.Change.{row_of, existing_in}
use Rattle.transaction.specs.Fields.{packed_refs_of}
use Rattle.model.specs.declared.Refusal.TheVariants.{Malformed}
use Rattle.model.specs.Store.{Store, rows_in, is_prepared}
use Rattle.model.specs.Rows.{change_in, row_at}
use Rattle.model.specs.EditList.{edits_of}
use Rattle.model.specs.Outcome.{◌>>=◌, or_refuse}
use Rattle.model.specs.Split.{splits}
use Rattle.model.specs.Prepare.{opening, existing_found}
use Rattle.model.specs.Reply.{Call, Given}
use Rattle.model.specs.Reply.Call.{prepare}
use Rattle.model.specs.Reply.Reply.{done}
use Rattle.model.specs.Calls.{row_found, step}
use Rattle.model.specs.Reached.{Reached, leaves}

-- ---- the place and the value

-- one of the two absent places
abbrev pub Missing : Found → Type 0
Missing x = (place_number x ≡ 4) ⊎ (place_number x ≡ 5)

-- Whatever is read: its place is one of the two exactly if its value is absent.
abbrev pub MissingAbsent : Type 0
MissingAbsent = (x : Found) → (Missing x → value_in x ≡ None) × (value_in x ≡ None → Missing x)

-- ---- a row's place is that of the value that R3 read

-- R3's readings in the prepare of a list, one for each row in order, with the packed table seen where R2 opened it
unfoldable pub readings : List ℕ → ℕ → Store → Result (List Found) Refusal
readings list number s = do
  edits ← or_refuse Malformed (edits_of list)
  mode ← or_refuse Malformed ((packed_refs_of number))
  split ← splits s (map row_of edits)
  opened ← opening s mode split
  Ok (map (existing_found s opened) split)

-- what read_row answers of the prepared rows, in order
abbrev pub rows_found : Store → List Found
rows_found s = map (row_found s) (rows_in s.prepared)

-- Of the rows that prepare leaves, the places are those of R3's readings,
abbrev pub AsRead : Type 0
AsRead =
    (s : Store) → Reached s → (list : List ℕ) (mode : ℕ) (t : Store) (g : Given) → step (prepare list mode) s ≡ done t g
    → readings list mode s ≡ Ok (rows_found t)

-- and no call changes them while the transaction is prepared.
abbrev pub Stays : Type 0
Stays =
    (s : Store) → Reached s → is_prepared s.prepared ≡ true
    → (c : Call) → is_prepared (leaves (step c s) s).prepared ≡ true
    → rows_found (leaves (step c s) s) ≡ rows_found s

-- ---- a row's place, and what the row found

-- The value there is the one that R3 wrote into the row, and the place is one of the two absent ones exactly if the row found
-- nothing.
pub record RowPlace (s : Store) (r : Edit) : Type 0 where
  pub value : value_in (row_found s r) ≡ existing_in (change_in r)
  pub nothing : Missing (row_found s r) → existing_in (change_in r) ≡ None
  pub missing : existing_in (change_in r) ≡ None → Missing (row_found s r)

abbrev pub RowPlaces : Type 0
RowPlaces =
    (s : Store) → Reached s → (i : ℕ) → i < length (rows_in s.prepared) → RowPlace s (row_at (rows_in s.prepared) i)
