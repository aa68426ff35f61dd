-- Demand 3 over bytes, sentence by sentence: of every region that is got from any bytes by a start and any calls, with a
-- transaction prepared, and of every result that keeps commit's contract there. The proofs stand in proofs/Demand3.antt.
use Rattle.target.specs.declared.Target.{Target}
use Rattle.std.specs.Prelude.{◌≡◌, true, false, ◌&&◌, cond, List, [], ◌∷◌, ◌⊎◌, ℕ, ◌≤◌, ◌<◌, min, length, take, ltb, leb, Option, Some, None}
use Rattle.target.specs.declared.NameNumber.{NameNumber}
use Rattle.transaction.specs.declared.Edit.{Edit}
use Rattle.transaction.specs.Change.{is_delete}
use Rattle.transaction.specs.Fields.{packed_refs_number}
use Rattle.model.specs.declared.Lock.TheVariants.{Foreign, Ours}
use Rattle.model.specs.Store.{Store, entry_at, lines_of, mode_in, is_prepared, is_lock}
use Rattle.model.specs.Rows.{name_in, change_in, row_at}
use Rattle.model.specs.Writes.{writes}
use Rattle.model.specs.Reply.Call.{commit, read_name}
use Rattle.model.specs.Numbers.{answer, option_places}
use Rattle.model.specs.Demand3.{rows, by, before_line, commit_writes, apply_all, refs, old, new, Deletes}
use Rattle.region.specs.Region.{decode, view}
use Rattle.answers.specs.Answers.{record_of}
use Rattle.calls.specs.Call.{call, Did}
use Rattle.calls.specs.Exports.{Got}

-- ---- words

-- A region with a transaction prepared, and what a commit of it by c with an allowance of k writes left: the number, the answer
-- record, and the region.
pub record Committed (c k : ℕ) (r : List ℕ) (n : ℕ) (a r' : List ℕ) : Type 0 where
  pub got : Got r
  pub prepared : is_prepared (view r).prepared ≡ true
  pub lent : List ℕ
  pub sized : length lent ≡ 128
  pub did : Did (call (commit c k) r lent) n a (r' ∷ [])

-- the record with these places, and zeros behind them
abbrev pub filled : List ℕ → List ℕ
filled places = record_of (answer 0 places).places

-- the bytes of a value in a record: its two places
abbrev pub value_bytes : Option Target → List ℕ
value_bytes t = record_of (option_places t)

-- a read of name n in the region r answers the value t, which is the first two places; where it was found stands behind them
pub record Reads (n : ℕ) (r : List ℕ) (t : Option Target) : Type 0 where
  pub read : (lent : List ℕ) (m : ℕ) (a r' : List ℕ) → length lent ≡ 128 → Did (call (read_name n) r lent) m a (r' ∷ [])
      → (m ≡ 0) × (take 16 a ≡ value_bytes t) × (r' ≡ r)

-- the rows of a region, and one of them
abbrev pub prepared_rows : List ℕ → List Edit
prepared_rows r = rows (view r)

abbrev pub prepared_row : List ℕ → ℕ → Edit
prepared_row r i = row_at (prepared_rows r) i

-- 17 where the allowance is used up and a write is left; else 16 where a log line is left that has no committer; else 0
abbrev pub number_at : ℕ → ℕ → Store → ℕ
number_at c k s =
    cond (leb k (length (commit_writes c s)) && ltb k (length (writes (by c) s))) 17
    (cond (ltb (length (commit_writes c s)) (length (writes (by c) s))) 16 0)

-- ---- a

-- Both regions hold stores. The second has the refs and logs from before with exactly the first k of the ordered writes made, or
-- all where there are fewer; the setting as it was, nothing prepared and our locks free, other locks as they were. The record's
-- first place has the count of the writes made, and the number says why there are no more.
pub record StoppedRegion (c k : ℕ) (r : List ℕ) (n : ℕ) (a r' : List ℕ) : Type 0 where
  pub before : decode r ≡ Some (view r)
  pub after : decode r' ≡ Some (view r')
  pub number : n ≡ number_at c k (view r)
  pub count : a ≡ filled (min k (length (commit_writes c (view r))) ∷ [])
  pub refs : refs (view r') ≡ refs (apply_all (take k (commit_writes c (view r))) (view r))
  pub logs : (view r').lines ≡ (apply_all (take k (commit_writes c (view r))) (view r)).lines
  pub setting : (view r').setting ≡ (view r).setting
  pub gone : (view r').prepared ≡ None
  pub free : (n : ℕ) → is_lock Ours (entry_at (view r') n).lock ≡ false
  pub packed_free : is_lock Ours (view r').packed_lock ≡ false
  pub foreign : (n : ℕ) → is_lock Foreign (entry_at (view r') n).lock ≡ is_lock Foreign (entry_at (view r) n).lock
  pub packed_foreign : is_lock Foreign (view r').packed_lock ≡ is_lock Foreign (view r).packed_lock

abbrev pub RegionA : Type 0
RegionA = (c k : ℕ) (r : List ℕ) (n : ℕ) (a r' : List ℕ) → Committed c k r n a r' → c ≤ 65535 → StoppedRegion c k r n a r'

-- ---- b

-- A name outside the rows reads as before.
abbrev pub RegionB : Type 0
RegionB =
    (c k : ℕ) (r : List ℕ) (n : ℕ) (a r' : List ℕ) → Committed c k r n a r'
    → (m : NameNumber) → ((i : ℕ) → i < length (prepared_rows r) → name_in (prepared_row r i) ≡ m → ⊥)
    → (t : Option Target) → Reads m.0 r t → Reads m.0 r' t

-- ---- c

-- Before the commit a name in the rows reads its old value.
abbrev pub RegionOld : Type 0
RegionOld =
    (c k : ℕ) (r : List ℕ) (n : ℕ) (a r' : List ℕ) → Committed c k r n a r'
    → (i : ℕ) → i < length (prepared_rows r) → Reads (name_in (prepared_row r i)).0 r (old (view r) (prepared_row r i))

-- A name in the rows reads its old value or its new value, and nothing else.
abbrev pub RegionC₁ : Type 0
RegionC₁ =
    (c k : ℕ) (r : List ℕ) (n : ℕ) (a r' : List ℕ) → Committed c k r n a r'
    → (i : ℕ) → i < length (prepared_rows r)
    → Reads (name_in (prepared_row r i)).0 r' (old (view r) (prepared_row r i)) ⊎ Reads (name_in (prepared_row r i)).0 r' (new (view r) (prepared_row r i))

-- Once new, it is new at every later stop.
abbrev pub RegionC₂ : Type 0
RegionC₂ =
    (c k j : ℕ) (r : List ℕ) (n m : ℕ) (a b r' r'' : List ℕ) → Committed c k r n a r' → Committed c j r m b r'' → k ≤ j
    → (i : ℕ) → i < length (prepared_rows r)
    → Reads (name_in (prepared_row r i)).0 r' (new (view r) (prepared_row r i))
    → Reads (name_in (prepared_row r i)).0 r'' (new (view r) (prepared_row r i))

-- ---- d

-- A deleted name that read present before has no log line once it reads absent.
abbrev pub RegionD : Type 0
RegionD =
    (c k : ℕ) (r : List ℕ) (n : ℕ) (a r' : List ℕ) → Committed c k r n a r'
    → (i : ℕ) → i < length (prepared_rows r) → Deletes (view r) (prepared_row r i)
    → Reads (name_in (prepared_row r i)).0 r' None
    → lines_of (view r') (name_in (prepared_row r i)) ≡ []

-- ---- e

-- In modes 1 and 2, if such a deletion shows, every update shows.
abbrev pub RegionE : Type 0
RegionE =
    (c k : ℕ) (r : List ℕ) (n : ℕ) (a r' : List ℕ) → Committed c k r n a r' → packed_refs_number (mode_in (view r).prepared) ≤ 2
    → (i j : ℕ) → i < length (prepared_rows r) → j < length (prepared_rows r) → Deletes (view r) (prepared_row r i)
    → Reads (name_in (prepared_row r i)).0 r' None
    → is_delete (change_in (prepared_row r j)) ≡ false
    → Reads (name_in (prepared_row r j)).0 r' (new (view r) (prepared_row r j))

-- ---- f

-- After a commit that is done every row's name reads its new value.
abbrev pub RegionF₁ : Type 0
RegionF₁ =
    (c k : ℕ) (r a r' : List ℕ) → Committed c k r 0 a r'
    → (i : ℕ) → i < length (prepared_rows r) → Reads (name_in (prepared_row r i)).0 r' (new (view r) (prepared_row r i))

-- 16 comes with committer 0 alone, before the first log line: the writes made are those before it, and there are more.
abbrev pub RegionF₂ : Type 0
RegionF₂ =
    (c k : ℕ) (r a r' : List ℕ) → Committed c k r 16 a r'
    → (made : ℕ)
    × (c ≡ 0)
    × (a ≡ filled (made ∷ []))
    × (take made (writes (by c) (view r)) ≡ before_line (writes (by c) (view r)))
    × (made < length (writes (by c) (view r)))
