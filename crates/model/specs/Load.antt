-- Start, names, loads and foreign locks. Refusals go by number, 15 first.
use Rattle.model.specs.declared.Refusal.{Refusal}
use Rattle.target.specs.declared.ObjectNumber.{ObjectNumber}
use Rattle.std.specs.Prelude.{Bool, ◌&&◌, ◌||◌, not, cond, List, [], ◌∷◌, ◌++◌, ℕ, zero, suc, ◌+◌, eqb, ltb, leb, Option, Some, None, Result, Ok, Err}
use Rattle.target.specs.declared.Target.TheVariants.{Object, Symbolic}
use Rattle.model.specs.declared.Loose.{Loose}
use Rattle.model.specs.declared.Loose.TheVariants as loose
use Rattle.model.specs.declared.Lock.{Lock}
use Rattle.model.specs.declared.Lock.TheVariants.{Free, Foreign}
use Rattle.model.specs.declared.Lockable.{Lockable}
use Rattle.model.specs.declared.Lockable.TheVariants.{Name, PackedTable}
use Rattle.model.specs.declared.WriteReflog.{WriteReflog}
use Rattle.model.specs.declared.WriteReflog.TheVariants.{Disable, Normal, Always}
use Rattle.model.specs.declared.Refusal.TheVariants.{Malformed, NotRegistered, BadName, NamesFull, WrongLock, BadLoad}
use Rattle.model.specs.Names.{is_name, same_bytes, packable}
use Rattle.model.specs.Store.{Store, Entry, empty, count, entry_at, entry_of, is_lock, is_id, is_none, put_loose, put_packed, put_lock, change_entry, with_entries, with_packed_lock}
use Rattle.model.specs.Beneath.{loose_above, loose_beneath}
use Rattle.model.specs.Outcome.{refuse_if, or_refuse}
use Rattle.model.specs.Reply.{Reply, ◌>>=◌, ◌>>◌, known, idle}
use Rattle.model.specs.Reply.Reply.{done}
use Rattle.model.specs.Reply.Given.{nothing, number, bytes_of}

-- ---- start: 0 never, 1 normal, 2 always

abbrev pub setting_of : ℕ → Option WriteReflog
setting_of zero = Some Disable
setting_of (suc zero) = Some Normal
setting_of (suc (suc zero)) = Some Always
setting_of (suc (suc (suc n))) = None

abbrev pub setting_byte : WriteReflog → ℕ
setting_byte Disable = 0
setting_byte Normal = 1
setting_byte Always = 2

unfoldable pub started : ℕ → Reply
started k = do
  setting ← or_refuse Malformed (setting_of k)
  done (empty setting) nothing

-- ---- names

-- the number of the first entry with the name, counted from i
abbrev pub number_from : ℕ → List ℕ → List Entry → Option ℕ
number_from i name [] = None
number_from i name (e ∷ es) = cond (same_bytes name e.name) (Some i) (number_from (i + 1) name es)

abbrev pub new_entry : List ℕ → Entry
new_entry name = record { name = name; loose = loose.None; packed = None; lock = Free }

-- adding a known name gives its old number; a new one is 19 where 256 are held
abbrev pub added_as : List ℕ → Store → Option ℕ → Reply
added_as name s (Some n) = done s (number n)
added_as name s None = do
  refuse_if (leb 256 (count s)) NamesFull
  done (with_entries s (s.entries ++ (new_entry name ∷ []))) (number (count s))

unfoldable pub name_added : List ℕ → Store → Reply
name_added name s = do
  refuse_if (not (is_name name)) BadName
  added_as name s (number_from 0 name s.entries)

unfoldable pub bytes_given : ℕ → Store → Reply
bytes_given n s = do
  known n s
  done s (bytes_of n)

-- ---- loads: 15, 3 (the name, then a link's number), 21

-- kind 0 none, 1 object, 2 link, 3 broken. 21: object 0, bad kind, a number beside none or broken
abbrev pub loose_of : ℕ → ℕ → Option Loose
loose_of zero x = cond (eqb x 0) (Some loose.None) None
loose_of (suc zero) x = cond (is_id x) (Some (loose.Target (Object (record { 0 = x })))) None
loose_of (suc (suc zero)) x = Some (loose.Target (Symbolic (record { 0 = x })))
loose_of (suc (suc (suc zero))) x = cond (eqb x 0) (Some loose.Broken) None
loose_of (suc (suc (suc (suc k)))) x = None

-- 21 too: a loose value, broken too, beneath another or above one
unfoldable pub nests : Store → ℕ → Loose → Bool
nests s n v = not (is_none v) && (loose_above s n || loose_beneath s n)

unfoldable pub loose_loaded : ℕ → ℕ → ℕ → Store → Reply
loose_loaded n kind x s = do
  idle s
  known n s
  refuse_if (eqb kind 2 && not (ltb x (count s))) (NotRegistered x)
  v ← or_refuse BadLoad (loose_of kind x)
  refuse_if (nests s n v) BadLoad
  done (change_entry (put_loose v) n s) nothing

-- kind 0 none, 1 object. 21 too: a packed value on an unpackable name
abbrev pub packed_of : List ℕ → ℕ → ℕ → Option (Option ObjectNumber)
packed_of name zero x = cond (eqb x 0) (Some None) None
packed_of name (suc zero) x = cond (is_id x && packable name) (Some (Some (record { 0 = x }))) None
packed_of name (suc (suc k)) x = None

unfoldable pub packed_loaded : ℕ → ℕ → ℕ → Store → Reply
packed_loaded n kind x s = do
  idle s
  known n s
  v ← or_refuse BadLoad (packed_of (entry_at s n).name kind x)
  done (change_entry (put_packed v) n s) nothing

-- ---- foreign locks: 2, 3, 20

-- what is locked. Kind 0 a name: 3 where the number is not registered. Kind 1 the packed table: the number is not looked at. 2: another
-- kind
abbrev pub lockable : ℕ → ℕ → Store → Result Lockable Refusal
lockable zero n s = cond (ltb n (count s)) (Ok (Name (record { 0 = n }))) (Err (NotRegistered n))
lockable (suc zero) n s = Ok PackedTable
lockable (suc (suc k)) n s = Err Malformed

abbrev pub lock_of : Lockable → Store → Lock
lock_of (Name n) s = (entry_of s n).lock
lock_of PackedTable s = s.packed_lock

abbrev pub set_lock : Lockable → Lock → Store → Store
set_lock (Name n) l s = change_entry (put_lock l) n.0 s
set_lock PackedTable l s = with_packed_lock s l

-- 20: a lock that is not what it must be
unfoldable pub relocked : Lock → Lock → ℕ → ℕ → Store → Reply
relocked must becomes kind n s = do
  what ← lockable kind n s
  refuse_if (not (is_lock must (lock_of what s))) WrongLock
  done (set_lock what becomes s) nothing

-- placing makes a free lock foreign, lifting a foreign one free
unfoldable pub placed : ℕ → ℕ → Store → Reply
placed kind n s = relocked Free Foreign kind n s

unfoldable pub lifted : ℕ → ℕ → Store → Reply
lifted kind n s = relocked Foreign Free kind n s
