-- Demand 3, sentence by sentence: what is proved of every reached store with a transaction prepared, every committer and every
-- stop. The proofs stand in proofs/Demand3.antt.
use Rattle.target.specs.declared.Target.{Target}
use Rattle.std.specs.Prelude.{◌≡◌, true, false, cond, List, [], ◌∷◌, map, ◌⊎◌, ℕ, ◌≤◌, ◌<◌, min, length, take, eqb, Option, Some, None}
use Rattle.target.specs.declared.NameNumber.{NameNumber}
use Rattle.transaction.specs.declared.Edit.{Edit}
use Rattle.transaction.specs.Change.{new_value, is_log_only, is_delete}
use Rattle.transaction.specs.Fields.{packed_refs_number}
use Rattle.model.specs.declared.Lock.TheVariants.{Free, Foreign, Ours}
use Rattle.model.specs.Store.{Store, Entry, entry_at, lines_of, rows_in, mode_in, is_prepared, is_lock, put_lock}
use Rattle.model.specs.Read.{reading}
use Rattle.model.specs.Rows.{name_in, change_in, row_at}
use Rattle.model.specs.Due.{Stamp}
use Rattle.model.specs.Writes.{Write, writes, apply}
use Rattle.model.specs.Commit.{is_line}
use Rattle.model.specs.Commit.Stop.{no_committer}
use Rattle.model.specs.Reply.{Reply, Given}
use Rattle.model.specs.Reply.Reply.{done, stopped, refused}
use Rattle.model.specs.Reply.Given.{nothing, number, bytes_of, value, line, row, written}
use Rattle.model.specs.Reply.Call.{commit}
use Rattle.model.specs.Calls.{step}
use Rattle.model.specs.Reached.{Reached, leaves}

-- ---- words

abbrev pub rows : Store → List Edit
rows s = rows_in s.prepared

abbrev pub by : ℕ → Stamp
by committer = record { committer = committer }

-- with committer 0 the list of writes ends before its first log line
abbrev pub before_line : List Write → List Write
before_line [] = []
before_line (w ∷ ws) = cond (is_line w) [] (w ∷ before_line ws)

-- the ordered writes that a commit with this committer makes, unless it is stopped
abbrev pub commit_writes : ℕ → Store → List Write
commit_writes c s = cond (eqb c 0) (before_line (writes (by c) s)) (writes (by c) s)

abbrev pub apply_all : List Write → Store → Store
apply_all [] s = s
apply_all (w ∷ ws) s = apply_all ws (apply w s)

-- commit with an allowance of k writes: what it leaves, and the count that it reports
abbrev pub stop_at : ℕ → ℕ → Store → Store
stop_at c k s = leaves (step (commit c k) s) s

abbrev pub count_in : Given → Option ℕ
count_in nothing = None
count_in (number n) = Some n
count_in (bytes_of n) = None
count_in (value x) = None
count_in (line l) = None
count_in (row r x) = None
count_in (written t) = None

abbrev pub reported : Reply → Option ℕ
reported (done s given) = count_in given
reported (stopped why s made) = Some made
reported (refused r) = None

-- names with their loose and packed values, whatever their locks
abbrev pub refs : Store → List Entry
refs s = map (put_lock Free) s.entries

-- a row's old value is what its name reads; its new value: for log-only, its old; for delete, absent; else new
abbrev pub old : Store → Edit → Option Target
old s r = reading s (name_in r)

abbrev pub new : Store → Edit → Option Target
new s r = cond (is_log_only (change_in r)) (old s r) (new_value (change_in r))

-- a row that deletes a name which read present before
pub record Deletes (s : Store) (r : Edit) : Type 0 where
  pub is_delete : is_delete (change_in r) ≡ true
  pub present : old s r ≡ None → ⊥

-- ---- a

-- Commit with an allowance of k writes, whatever k is, leaves the refs and logs from before with exactly the first k of the
-- ordered writes made, or all where there are fewer; the setting as it was, the transaction gone and our locks free, other locks as
-- they were; and the count reported is that of the writes made, the least of k and the list's length.
pub record StoppedAt (c k : ℕ) (s : Store) : Type 0 where
  pub count : reported (step (commit c k) s) ≡ Some (min k (length (commit_writes c s)))
  pub refs : refs (stop_at c k s) ≡ refs (apply_all (take k (commit_writes c s)) s)
  pub logs : (stop_at c k s).lines ≡ (apply_all (take k (commit_writes c s)) s).lines
  pub setting : (stop_at c k s).setting ≡ s.setting
  pub gone : (stop_at c k s).prepared ≡ None
  pub free : (n : ℕ) → is_lock Ours (entry_at (stop_at c k s) n).lock ≡ false
  pub packed_free : is_lock Ours (stop_at c k s).packed_lock ≡ false
  pub foreign : (n : ℕ) → is_lock Foreign (entry_at (stop_at c k s) n).lock ≡ is_lock Foreign (entry_at s n).lock
  pub packed_foreign : is_lock Foreign (stop_at c k s).packed_lock ≡ is_lock Foreign s.packed_lock

abbrev pub A : Type 0
A =
    (s : Store) → Reached s → is_prepared s.prepared ≡ true
    → (c : ℕ) → c ≤ 65535 → (k : ℕ) → StoppedAt c k s

-- ---- b

-- A name outside the rows reads as before.
abbrev pub B : Type 0
B =
    (s : Store) → Reached s → is_prepared s.prepared ≡ true
    → (c k : ℕ) (n : NameNumber) → ((i : ℕ) → i < length (rows s) → name_in (row_at (rows s) i) ≡ n → ⊥)
    → reading (stop_at c k s) n ≡ reading s n

-- ---- c

-- A name in the rows reads its old or its new value,
abbrev pub C₁ : Type 0
C₁ =
    (s : Store) → Reached s → is_prepared s.prepared ≡ true
    → (c k i : ℕ) → i < length (rows s)
    → (reading (stop_at c k s) (name_in (row_at (rows s) i)) ≡ old s (row_at (rows s) i))
    ⊎ (reading (stop_at c k s) (name_in (row_at (rows s) i)) ≡ new s (row_at (rows s) i))

-- and once new never old again at a later stop.
abbrev pub C₂ : Type 0
C₂ =
    (s : Store) → Reached s → is_prepared s.prepared ≡ true
    → (c k j i : ℕ) → i < length (rows s) → k ≤ j
    → reading (stop_at c k s) (name_in (row_at (rows s) i)) ≡ new s (row_at (rows s) i)
    → reading (stop_at c j s) (name_in (row_at (rows s) i)) ≡ new s (row_at (rows s) i)

-- ---- d

-- A deleted name that read present before has no log line once it reads absent.
abbrev pub D : Type 0
D =
    (s : Store) → Reached s → is_prepared s.prepared ≡ true
    → (c k i : ℕ) → i < length (rows s) → Deletes s (row_at (rows s) i)
    → reading (stop_at c k s) (name_in (row_at (rows s) i)) ≡ None
    → lines_of (stop_at c k s) (name_in (row_at (rows s) i)) ≡ []

-- ---- e

-- In modes 1 and 2, if such a deletion shows, every update shows.
abbrev pub E : Type 0
E =
    (s : Store) → Reached s → is_prepared s.prepared ≡ true → packed_refs_number (mode_in s.prepared) ≤ 2
    → (c k i j : ℕ) → i < length (rows s) → j < length (rows s)
    → Deletes s (row_at (rows s) i) → reading (stop_at c k s) (name_in (row_at (rows s) i)) ≡ None
    → is_delete (change_in (row_at (rows s) j)) ≡ false
    → reading (stop_at c k s) (name_in (row_at (rows s) j)) ≡ new s (row_at (rows s) j)

-- ---- f

-- After the whole list every row's name reads its new value.
abbrev pub F₁ : Type 0
F₁ =
    (s : Store) → Reached s → is_prepared s.prepared ≡ true
    → (c k : ℕ) (t : Store) (g : Given) → step (commit c k) s ≡ done t g
    → (i : ℕ) → i < length (rows s) → reading t (name_in (row_at (rows s) i)) ≡ new s (row_at (rows s) i)

-- With committer 0 the stop is before the first log line: the writes made are those before it.
abbrev pub F₂ : Type 0
F₂ =
    (s : Store) → Reached s → is_prepared s.prepared ≡ true
    → (k made : ℕ) (t : Store) → step (commit 0 k) s ≡ stopped no_committer t made
    → (take made (writes (by 0) s) ≡ before_line (writes (by 0) s)) × (made < length (writes (by 0) s))
