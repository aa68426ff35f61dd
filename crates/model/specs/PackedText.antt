-- 2026-07: the packed table as text, in lines as git's packed-refs file has them. A line, the sorted table, the text of a store; what a text
-- says, up to its first line at fault; and what reading it does to a store.
use Rattle.target.specs.declared.ObjectNumber.{ObjectNumber}
use Rattle.std.specs.Prelude.{Bool, true, false, ◌&&◌, ◌||◌, not, cond, List, [], ◌∷◌, ◌++◌, map, ℕ, zero, suc, ◌+◌, ◌-◌, ◌*◌, ◌/◌, ◌%◌, length, get_or, take, drop, eqb, ltb, leb, Option, Some, None, Result, Ok, Err}
use Rattle.word.specs.Be.{cut}
use Rattle.model.specs.declared.Refusal.{Refusal}
use Rattle.model.specs.declared.Refusal.TheVariants.{NamesFull, BadLoad, MalformedLine}
use Rattle.model.specs.Basic.{text, every, all, collect, is_empty}
use Rattle.model.specs.Names.{between, is_char, under, before, pieces, is_name, packable}
use Rattle.model.specs.Store.{Store, Entry, count, is_id, put_packed, change_entry, with_entries}
use Rattle.model.specs.Outcome.{refuse_if, ◌>>=◌, ◌>>◌}
use Rattle.model.specs.Load.{number_from, new_entry}

-- ---- a line

-- what a line says: a name and its object
pub record Ref : Type 0 where
  pub name : List ℕ
  pub object : ℕ

-- the byte of a hex digit: 0 to 9, a to f
abbrev pub digit : ℕ → ℕ
digit d = cond (ltb d 10) (48 + d) (87 + d)

-- the k low digits of x, the highest first, in front of a list
unfoldable pub digits_on : ℕ → ℕ → List ℕ → List ℕ
digits_on zero x acc = acc
digits_on (suc k) x acc = digits_on k (x / 16) (digit (x % 16) ∷ acc)

abbrev pub line_feed : ℕ
line_feed = 10

-- 40 digits, a space, the name, a line feed
unfoldable pub ref_line : Ref → List ℕ
ref_line r = digits_on 40 r.object (text " " ++ (r.name ++ (line_feed ∷ [])))

-- ---- the sorted table, and the text of a store

-- a ref among refs in byte order
abbrev pub insert : Ref → List Ref → List Ref
insert r [] = r ∷ []
insert r (x ∷ xs) = cond (before r.name x.name) (r ∷ x ∷ xs) (x ∷ insert r xs)

abbrev pub with_packed : List ℕ → Option ObjectNumber → List Ref → List Ref
with_packed name None rs = rs
with_packed name (Some o) rs = insert (record { name = name; object = o.0 }) rs

-- the refs of the entries that have a packed value, in byte order
abbrev pub sorted : List Entry → List Ref
sorted [] = []
sorted (e ∷ es) = with_packed e.name e.packed (sorted es)

unfoldable pub packed_table : Store → List Ref
packed_table s = sorted s.entries

unfoldable pub packed_text : Store → List ℕ
packed_text s = collect ref_line (packed_table s)

-- ---- what a line says, without its line feed

abbrev pub is_digit : ℕ → Bool
is_digit b = between "0" "9" b || between "a" "f" b

abbrev pub digit_value : ℕ → ℕ
digit_value b = cond (between "0" "9" b) (b - 48) (b - 87)

-- the number whose digits are acc's and then the list's, the highest first
unfoldable pub digits_from : ℕ → List ℕ → ℕ
digits_from acc [] = acc
digits_from acc (b ∷ bs) = digits_from (acc * 16 + digit_value b) bs

-- a ref line: 40 digits, of which the first 24 are zeros, a space, and a name
abbrev pub ref_tests : List ℕ → List Bool
ref_tests l =
    all is_digit (take 40 l)
    ∷ under "000000000000000000000000" l
    ∷ is_char " " (get_or l 40 0)
    ∷ is_name (drop 41 l)
    ∷ []

unfoldable pub ref_in : List ℕ → Option Ref
ref_in l = cond (every (ref_tests l)) (Some (record { name = drop 41 l; object = digits_from 0 (cut 24 16 l) })) None

-- a comment line, and a line of `^` and 40 digits of any value
abbrev pub is_comment : List ℕ → Bool
is_comment l = under "#" l

unfoldable pub is_peeled : List ℕ → Bool
is_peeled l = under "^" l && eqb (length l) 41 && all is_digit (drop 1 l)

-- 27: a line that is no ref line, or whose name does not stand behind that of the last ref line. 21: an object 0, a name that is not packable
abbrev pub ref_said : ℕ → List ℕ → Option Ref → Result (Option Ref) Refusal
ref_said i last None = Err (MalformedLine i)
ref_said i last (Some r) = do
  refuse_if (not (before last r.name)) (MalformedLine i)
  refuse_if (not (is_id r.object && packable r.name)) BadLoad
  Ok (Some r)

-- line i, where `last` is the name of the last ref line, empty before the first, and `direct` says that this is the line just before.
-- Comments say nothing, and so does a `^` line directly after a ref line
unfoldable pub line_said : ℕ → List ℕ → Bool → List ℕ → Result (Option Ref) Refusal
line_said i last direct l = cond (is_comment l || (direct && is_peeled l)) (Ok None) (ref_said i last (ref_in l))

-- ---- what a text says

-- the text's end, or its first line at fault, by number from 1, with what is wrong
pub data End : Type 0 where
  whole : End
  faulty : ℕ → Refusal → End

-- the refs of the lines before that, in line order
pub record Reading : Type 0 where
  pub refs : List Ref
  pub end : End

-- on from line i
abbrev pub read_on : ℕ → List ℕ → Result (Option Ref) Refusal → (ℕ → List ℕ → Bool → Reading) → Reading
read_on i last (Err r) next = record { refs = []; end = faulty i r }
read_on i last (Ok None) next = next (i + 1) last false
read_on i last (Ok (Some r)) next = let rest : Reading = next (i + 1) r.name true in record { refs = r ∷ rest.refs; end = rest.end }

-- the lines are what stands before the line feeds. Behind the last one nothing may stand: 27
unfoldable pub read_lines : List (List ℕ) → ℕ → List ℕ → Bool → Reading
read_lines [] i last direct = record { refs = []; end = whole }
read_lines (l ∷ []) i last direct = record { refs = []; end = cond (is_empty l) whole (faulty i (MalformedLine i)) }
read_lines (l ∷ m ∷ ls) i last direct = read_on i last (line_said i last direct l) (read_lines (m ∷ ls))

unfoldable pub read_text : List ℕ → Reading
read_text t = read_lines (pieces line_feed t) 1 [] false

-- ---- what reading does to a store

-- no packed values
unfoldable pub unpacked : Store → Store
unpacked s = with_entries s (map (put_packed None) s.entries)

-- the object becomes the packed value of name n
abbrev pub packed_as : Ref → ℕ → Store → Store
packed_as r n s = change_entry (put_packed (Some (record { 0 = r.object }))) n s

-- a name that is not known is added: 19 where 256 are held
abbrev pub ref_loaded_as : Ref → Store → Option ℕ → Result Store Refusal
ref_loaded_as r s (Some n) = Ok (packed_as r n s)
ref_loaded_as r s None = do
  refuse_if (leb 256 (count s)) NamesFull
  Ok (packed_as r (count s) (with_entries s (s.entries ++ (new_entry r.name ∷ []))))

unfoldable pub ref_loaded : Ref → Store → Result Store Refusal
ref_loaded r s = ref_loaded_as r s (number_from 0 r.name s.entries)

-- refs in line order
unfoldable pub loaded : List Ref → Store → Result Store Refusal
loaded [] s = Ok s
loaded (r ∷ rs) s = ref_loaded r s >>= loaded rs

abbrev pub judged : End → Result (Unit {0}) Refusal
judged whole = Ok tt
judged (faulty i r) = Err r
