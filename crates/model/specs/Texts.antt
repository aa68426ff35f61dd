-- 2026-07: what is proved of the packed table as text. The proofs stand in proofs/Texts.antt.
use Rattle.std.specs.Prelude.{◌≡◌, Bool, true, false, ◌&&◌, not, List, [], ◌∷◌, ℕ, ◌+◌, ◌≤◌, ◌<◌, length}
use Rattle.model.specs.Basic.{all}
use Rattle.model.specs.Names.{under, before, pieces}
use Rattle.model.specs.Store.{Store, count, entry_at, is_prepared}
use Rattle.model.specs.Reply.{Given}
use Rattle.model.specs.Reply.Call.{read_packed}
use Rattle.model.specs.Reply.Reply.{done}
use Rattle.model.specs.Reply.Given.{number}
use Rattle.model.specs.PackedText.{Ref, packed_table, packed_text, line_feed, is_comment, read_text}
use Rattle.model.specs.PackedText.End.{whole}
use Rattle.model.specs.Calls.{step}
use Rattle.model.specs.Reached.{Reached}

-- ---- the text of a store: its names rise strictly, and its length

-- each name stands before all that follow it
abbrev pub rises : List Ref → Bool
rises [] = true
rises (r ∷ rs) = all (λ (x : Ref). before r.name x.name) rs && rises rs

abbrev pub Rises : Type 0
Rises = (s : Store) → Reached s → rises (packed_table s) ≡ true

-- 42 bytes a line, and those of the name
abbrev pub lengths : List Ref → ℕ
lengths [] = 0
lengths (r ∷ rs) = (42 + length r.name) + lengths rs

abbrev pub TextLength : Type 0
TextLength = (s : Store) → length (packed_text s) ≡ lengths (packed_table s)

-- 256 names of 64 bytes
abbrev pub Widest : Type 0
Widest = (s : Store) → Reached s → length (packed_text s) ≤ 27136

-- ---- reading what was written

-- A text that was written is at no fault, and says the table.
abbrev pub WrittenRead : Type 0
WrittenRead = (s : Store) → Reached s → read_text (packed_text s) ≡ record { refs = packed_table s; end = whole }

-- Read into any store, it leaves the same table.
abbrev pub SameTable : Type 0
SameTable =
    (s : Store) → Reached s → (t u : Store) (g : Given) → step (read_packed (packed_text s)) t ≡ done u g
    → packed_table u ≡ packed_table s

-- Read into the store that it was written of, it is done, and leaves all as it is.
abbrev pub SameStore : Type 0
SameStore =
    (s : Store) → Reached s → is_prepared s.prepared ≡ false
    → step (read_packed (packed_text s)) s ≡ done s (number (length (packed_table s)))

-- ---- writing what was read

-- no comment, and no line that begins with `^`
abbrev pub plain_line : List ℕ → Bool
plain_line l = not (is_comment l) && not (under "^" l)

abbrev pub plain : List ℕ → Bool
plain t = all plain_line (pieces line_feed t)

abbrev pub SameText : Type 0
SameText = (t : List ℕ) → plain t ≡ true → (s u : Store) (g : Given) → step (read_packed t) s ≡ done u g → packed_text u ≡ t

-- ---- what reading leaves alone: of a name that was there all but its packed value, and all that is no name's

pub record Aside (s u : Store) : Type 0 where
  pub grown : count s ≤ count u
  pub name : (n : ℕ) → n < count s → (entry_at u n).name ≡ (entry_at s n).name
  pub loose : (n : ℕ) → n < count s → (entry_at u n).loose ≡ (entry_at s n).loose
  pub lock : (n : ℕ) → n < count s → (entry_at u n).lock ≡ (entry_at s n).lock
  pub packed_lock : u.packed_lock ≡ s.packed_lock
  pub lines : u.lines ≡ s.lines
  pub setting : u.setting ≡ s.setting
  pub prepared : u.prepared ≡ s.prepared

abbrev pub LeftAlone : Type 0
LeftAlone = (t : List ℕ) (s u : Store) (g : Given) → step (read_packed t) s ≡ done u g → Aside s u
