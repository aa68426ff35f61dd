-- The rules that every store obeys: as one record, and as one test.
use Rattle.target.specs.declared.ObjectNumber.{ObjectNumber}
use Rattle.std.specs.Prelude.{◌≡◌, Bool, true, ◌&&◌, not, List, [], ◌∷◌, ℕ, ◌+◌, ◌≤◌, ◌<◌, ◌^◌, length, get_or, eqb, ltb, leb, Option, Some, None}
use Rattle.std.specs.Bool.{beq}
use Rattle.target.specs.declared.Target.{Target}
use Rattle.target.specs.declared.Target.TheVariants.{Object, Symbolic}
use Rattle.transaction.specs.declared.PackedRefs.{PackedRefs}
use Rattle.transaction.specs.declared.Edit.{Edit}
use Rattle.transaction.specs.Change.{new_value, previous_value, message_of, existing_in}
use Rattle.model.specs.declared.Loose.{Loose}
use Rattle.model.specs.declared.Loose.TheVariants as loose
use Rattle.model.specs.declared.Lock.TheVariants.{Ours}
use Rattle.model.specs.declared.Line.{Line}
use Rattle.model.specs.Basic.{any, every, Below, below}
use Rattle.model.specs.Names.{is_name, same_bytes, packable}
use Rattle.model.specs.Store.{Store, Entry, count, entry_at, no_line, rows_in, mode_in, is_lock, is_id}
use Rattle.model.specs.Rows.{name_in, change_in, row_at, ancestors, opens, keeps_lock}
use Rattle.model.specs.Due.{due_lines}
use Rattle.model.specs.Beneath.{is_loose, loose_above, conflicts}

-- ---- names and values

-- a target is an object or a symbolic link to a registered name
abbrev pub fine_target : ℕ → Target → Bool
fine_target n (Object o) = is_id o.0
fine_target n (Symbolic m) = ltb m.0 n

abbrev pub fine_option : ℕ → Option Target → Bool
fine_option n None = true
fine_option n (Some t) = fine_target n t

-- loose: none, a target, or broken
abbrev pub fine_loose : ℕ → Loose → Bool
fine_loose n loose.None = true
fine_loose n (loose.Target t) = fine_target n t
fine_loose n loose.Broken = true

-- packed: none, or an object where the name is packable
abbrev pub fine_packed : List ℕ → Option ObjectNumber → Bool
fine_packed name None = true
fine_packed name (Some o) = is_id o.0 && packable name

abbrev pub entry_tests : ℕ → Entry → List Bool
entry_tests n e = is_name e.name ∷ fine_loose n e.loose ∷ fine_packed e.name e.packed ∷ []

unfoldable pub fine_entry : ℕ → Entry → Bool
fine_entry n e = every (entry_tests n e)

-- a line: name, previous (0 if none), new, committer 1 to 65,535, message number
abbrev pub line_tests : ℕ → Line → List Bool
line_tests n l =
    ltb l.name.0 n
    ∷ ltb l.previous.0 (2 ^ 64)
    ∷ is_id l.new.0
    ∷ ltb 0 l.committer
    ∷ ltb l.committer (2 ^ 16)
    ∷ ltb l.message (2 ^ 16)
    ∷ []

unfoldable pub fine_line : ℕ → Line → Bool
fine_line n l = every (line_tests n l)

-- ---- rows

-- the parent is an earlier row, or none
abbrev pub fine_parent : ℕ → Option ℕ → Bool
fine_parent i None = true
fine_parent i (Some j) = ltb j i

-- each parent among the first n rows is an earlier row, or none: so the climb ends, since the place falls
pub record Upward (n : ℕ) (rows : List Edit) : Type 0 where
  pub up : Below n (λ i. fine_parent i (row_at rows i).parent_index)

-- the row at place i: no name is followed any more, and it has at most four ancestors
abbrev pub row_tests : ℕ → List Edit → ℕ → List Bool
row_tests n rows i =
    ltb (name_in (row_at rows i)).0 n
    ∷ not (row_at rows i).update.deref
    ∷ ltb (message_of (change_in (row_at rows i))) (2 ^ 16)
    ∷ fine_option n (previous_value (change_in (row_at rows i)))
    ∷ fine_option n (new_value (change_in (row_at rows i)))
    ∷ fine_parent i (row_at rows i).parent_index
    ∷ leb (length (ancestors rows i)) 4
    ∷ ltb (row_at rows i).leaf_referent_previous_oid.0 (2 ^ 64)
    ∷ []

unfoldable pub fine_row : ℕ → List Edit → ℕ → Bool
fine_row n rows i = every (row_tests n rows i)

-- ---- locks: ours are exactly those that the rows and the opening of the packed table keep

unfoldable pub kept_for : Store → ℕ → Bool
kept_for s n =
    any (λ (r : Edit). eqb (name_in r).0 n && keeps_lock s (mode_in s.prepared) r) (rows_in s.prepared)

unfoldable pub fine_lock : Store → ℕ → Bool
fine_lock s n = beq (is_lock Ours (entry_at s n).lock) (kept_for s n)

abbrev pub fine_packed_lock : Store → Bool
fine_packed_lock s = beq (is_lock Ours s.packed_lock) (opens s (mode_in s.prepared) (rows_in s.prepared))

-- ---- two of one kind are apart

abbrev pub apart_names : Store → ℕ → ℕ → Bool
apart_names s n m = not (same_bytes (entry_at s n).name (entry_at s m).name)

abbrev pub apart_rows : List Edit → ℕ → ℕ → Bool
apart_rows rows i j = not (eqb (name_in (row_at rows i)).0 (name_in (row_at rows j)).0)

-- ---- names beneath names

-- no loose value beneath another, broken ones too
unfoldable pub alone_loose : Store → ℕ → Bool
alone_loose s n = not (is_loose s n && loose_above s n)

-- no prepared row that 25 refuses, with the existing value read off the row
unfoldable pub clear_row : Store → PackedRefs → List Edit → ℕ → Bool
clear_row s mode rows i = not (conflicts s mode rows i (existing_in (change_in (row_at rows i))))

-- ---- the rules

pub record Fine (s : Store) : Type 0 where
  pub few : count s ≤ 256
  pub entries : Below (count s) (λ n. fine_entry (count s) (entry_at s n))
  pub apart : (n : ℕ) → n < count s → Below n (apart_names s n)
  pub short : length s.lines ≤ 1024
  pub lines : Below (length s.lines) (λ i. fine_line (count s) (get_or s.lines i no_line))
  pub bounded : length (rows_in s.prepared) ≤ 160
  pub rows : Below (length (rows_in s.prepared)) (fine_row (count s) (rows_in s.prepared))
  pub distinct : (i : ℕ) → i < length (rows_in s.prepared) → Below i (apart_rows (rows_in s.prepared) i)
  pub locks : Below (count s) (fine_lock s)
  pub packed_lock : fine_packed_lock s ≡ true
  pub room : length s.lines + length (due_lines s (rows_in s.prepared)) ≤ 1024
  pub alone : Below (count s) (alone_loose s)
  pub clear : Below (length (rows_in s.prepared)) (clear_row s (mode_in s.prepared) (rows_in s.prepared))

-- ---- the same as a test, in groups: a rule stands in one group's list

-- names and their values
abbrev pub name_rules : Store → List Bool
name_rules s =
    leb (count s) 256
    ∷ below (count s) (λ n. fine_entry (count s) (entry_at s n))
    ∷ below (count s) (λ n. below n (apart_names s n))
    ∷ []

-- log lines
abbrev pub line_rules : Store → List Bool
line_rules s =
    leb (length s.lines) 1024
    ∷ below (length s.lines) (λ i. fine_line (count s) (get_or s.lines i no_line))
    ∷ []

-- rows of a prepared transaction
abbrev pub row_rules : Store → List Bool
row_rules s =
    leb (length (rows_in s.prepared)) 160
    ∷ below (length (rows_in s.prepared)) (fine_row (count s) (rows_in s.prepared))
    ∷ below (length (rows_in s.prepared)) (λ i. below i (apart_rows (rows_in s.prepared) i))
    ∷ []

-- which locks are ours
abbrev pub lock_rules : Store → List Bool
lock_rules s = below (count s) (fine_lock s) ∷ fine_packed_lock s ∷ []

-- room for the lines that are due
abbrev pub room_rules : Store → List Bool
room_rules s = leb (length s.lines + length (due_lines s (rows_in s.prepared))) 1024 ∷ []

-- names beneath names
abbrev pub nest_rules : Store → List Bool
nest_rules s =
    below (count s) (alone_loose s)
    ∷ below (length (rows_in s.prepared)) (clear_row s (mode_in s.prepared) (rows_in s.prepared))
    ∷ []

unfoldable pub fine_names : Store → Bool
fine_names s = every (name_rules s)

unfoldable pub fine_lines : Store → Bool
fine_lines s = every (line_rules s)

unfoldable pub fine_rows : Store → Bool
fine_rows s = every (row_rules s)

unfoldable pub fine_locks : Store → Bool
fine_locks s = every (lock_rules s)

unfoldable pub fine_room : Store → Bool
fine_room s = every (room_rules s)

unfoldable pub fine_nests : Store → Bool
fine_nests s = every (nest_rules s)

unfoldable pub fine : Store → Bool
fine s = every (fine_names s ∷ fine_lines s ∷ fine_rows s ∷ fine_locks s ∷ fine_room s ∷ fine_nests s ∷ [])
