-- The store: what one region holds. Nothing here knows of bytes but a name's own.
use Rattle.target.specs.declared.ObjectNumber.{ObjectNumber}
use Rattle.std.specs.Prelude.{Bool, true, false, ◌&&◌, List, [], ℕ, zero, suc, ◌^◌, length, get_or, set, eqb, ltb, Option, Some, None}
use Rattle.target.specs.declared.NameNumber.{NameNumber}
use Rattle.target.specs.declared.Target.TheVariants.{Object}
use Rattle.transaction.specs.declared.PackedRefs.{PackedRefs}
use Rattle.transaction.specs.declared.PackedRefs.TheVariants.{DeletionsOnly}
use Rattle.transaction.specs.declared.PreviousValue.TheVariants.{Any}
use Rattle.transaction.specs.declared.Change.TheVariants.{Update}
use Rattle.transaction.specs.declared.Edit.{Edit}
use Rattle.transaction.specs.Change.{default_log, row_of}
use Rattle.model.specs.declared.Loose.{Loose}
use Rattle.model.specs.declared.Loose.TheVariants as loose
use Rattle.model.specs.declared.Lock.{Lock}
use Rattle.model.specs.declared.Lock.TheVariants.{Free, Foreign, Ours}
use Rattle.model.specs.declared.Line.{Line}
use Rattle.model.specs.declared.WriteReflog.{WriteReflog}
use Rattle.model.specs.Basic.{select}

-- per name: its bytes, loose value, packed value and lock
pub record Entry : Type 0 where
  pub name : List ℕ
  pub loose : Loose
  pub packed : Option ObjectNumber
  pub lock : Lock

-- a prepared transaction: the mode and the rows
pub record Prepared : Type 0 where
  pub mode : PackedRefs
  pub rows : List Edit

-- names are numbered from 0 in order of arrival; lines stand in append order
pub record Store : Type 0 where
  pub entries : List Entry
  pub packed_lock : Lock
  pub lines : List Line
  pub setting : WriteReflog
  pub prepared : Option Prepared

-- an object is a number from 1 to 2^64-1; 0 is the null id
abbrev pub is_id : ℕ → Bool
is_id o = ltb 0 o && ltb o (2 ^ 64)

-- the store that start leaves
abbrev pub empty : WriteReflog → Store
empty setting = record { entries = []; packed_lock = Free; lines = []; setting = setting; prepared = None }

-- ---- looking into it

-- what stands past a list's end, where nothing reads
abbrev pub no_entry : Entry
no_entry = record { name = []; loose = loose.None; packed = None; lock = Free }

abbrev pub no_line : Line
no_line = record { name = record { 0 = 0 }; previous = record { 0 = 0 }; new = record { 0 = 0 }; committer = 0; message = 0 }

abbrev pub no_row : Edit
no_row = row_of (record { change = Update default_log Any (Object (record { 0 = 0 })); name = record { 0 = 0 }; deref = false })

abbrev pub count : Store → ℕ
count s = length s.entries

abbrev pub entry_at : Store → ℕ → Entry
entry_at s n = get_or s.entries n no_entry

abbrev pub entry_of : Store → NameNumber → Entry
entry_of s n = entry_at s n.0

-- the bytes of a name
abbrev pub name_of : Store → NameNumber → List ℕ
name_of s n = (entry_of s n).name

-- the log of a name: its lines, in append order
abbrev pub is_of : NameNumber → Line → Bool
is_of n l = eqb l.name.0 n.0

unfoldable pub lines_of : Store → NameNumber → List Line
lines_of s n = select (is_of n) s.lines

-- the rows and the mode that are prepared; with nothing prepared there is no row
abbrev pub rows_in : Option Prepared → List Edit
rows_in None = []
rows_in (Some p) = p.rows

abbrev pub mode_in : Option Prepared → PackedRefs
mode_in None = DeletionsOnly
mode_in (Some p) = p.mode

abbrev pub is_prepared : Option Prepared → Bool
is_prepared None = false
is_prepared (Some p) = true

-- a lock's state as a number: 0 free, 1 foreign, 2 ours
abbrev pub lock_byte : Lock → ℕ
lock_byte Free = 0
lock_byte Foreign = 1
lock_byte Ours = 2

abbrev pub lock_from : ℕ → Option Lock
lock_from zero = Some Free
lock_from (suc zero) = Some Foreign
lock_from (suc (suc zero)) = Some Ours
lock_from (suc (suc (suc n))) = None

abbrev pub is_lock : Lock → Lock → Bool
is_lock a b = eqb (lock_byte a) (lock_byte b)

abbrev pub is_none : Loose → Bool
is_none loose.None = true
is_none (loose.Target t) = false
is_none loose.Broken = false

abbrev pub is_packed : Option ObjectNumber → Bool
is_packed None = false
is_packed (Some o) = true

-- ---- changing it

abbrev pub put_loose : Loose → Entry → Entry
put_loose v e = record { name = e.name; loose = v; packed = e.packed; lock = e.lock }

abbrev pub put_packed : Option ObjectNumber → Entry → Entry
put_packed v e = record { name = e.name; loose = e.loose; packed = v; lock = e.lock }

abbrev pub put_lock : Lock → Entry → Entry
put_lock v e = record { name = e.name; loose = e.loose; packed = e.packed; lock = v }

abbrev pub change_at : (Entry → Entry) → ℕ → List Entry → List Entry
change_at f n es = set es n (f (get_or es n no_entry))

abbrev pub with_entries : Store → List Entry → Store
with_entries s es = record { entries = es; packed_lock = s.packed_lock; lines = s.lines; setting = s.setting; prepared = s.prepared }

abbrev pub with_lines : Store → List Line → Store
with_lines s ls = record { entries = s.entries; packed_lock = s.packed_lock; lines = ls; setting = s.setting; prepared = s.prepared }

abbrev pub with_packed_lock : Store → Lock → Store
with_packed_lock s l = record { entries = s.entries; packed_lock = l; lines = s.lines; setting = s.setting; prepared = s.prepared }

abbrev pub with_prepared : Store → Option Prepared → Store
with_prepared s p = record { entries = s.entries; packed_lock = s.packed_lock; lines = s.lines; setting = s.setting; prepared = p }

-- other rows under the mode that is there; with nothing prepared there is no place for one
abbrev pub rows_as : List Edit → Option Prepared → Option Prepared
rows_as rows None = None
rows_as rows (Some p) = Some (record { mode = p.mode; rows = rows })

abbrev pub with_rows : Store → List Edit → Store
with_rows s rows = with_prepared s (rows_as rows s.prepared)

abbrev pub change_entry : (Entry → Entry) → ℕ → Store → Store
change_entry f n s = with_entries s (change_at f n s.entries)
