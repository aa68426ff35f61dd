-- The forms of a loose value, a packed value, a lock and a log line in a slot of bytes. Each has a form for every value and a
-- reading of every slot, which finds a value or none.
use Rattle.target.specs.declared.ObjectNumber.{ObjectNumber}
use Rattle.std.specs.Prelude.{◌&&◌, cond, List, [], ◌∷◌, ℕ, zero, suc, ◌^◌, ◌<◌, get_or, eqb, leb, Option, Some, None}
use Rattle.word.specs.Be.{cut, val}
use Rattle.word.specs.Fields.{fields, unfields}
use Rattle.target.specs.declared.Target.{Target}
use Rattle.target.specs.declared.Target.TheVariants.{Object, Symbolic}
use Rattle.model.specs.declared.Loose.{Loose}
use Rattle.model.specs.declared.Loose.TheVariants as loose
use Rattle.model.specs.declared.Lock.{Lock}
use Rattle.model.specs.declared.Lock.TheVariants.{Free, Foreign, Ours}
use Rattle.model.specs.declared.Line.{Line}
use Rattle.model.specs.Store.{lock_byte, lock_from}
use Rattle.model.specs.EditList.{◌>>=◌, target_of}

-- ---- a loose value: kind (0 none, 1 object, 2 link, 3 broken) and number, 1 + 8 bytes

abbrev pub loose_widths : List ℕ
loose_widths = 1 ∷ 8 ∷ []

abbrev pub loose_kind : Loose → ℕ
loose_kind loose.None = 0
loose_kind (loose.Target (Object o)) = 1
loose_kind (loose.Target (Symbolic n)) = 2
loose_kind loose.Broken = 3

abbrev pub loose_number : Loose → ℕ
loose_number loose.None = 0
loose_number (loose.Target (Object o)) = o.0
loose_number (loose.Target (Symbolic n)) = n.0
loose_number loose.Broken = 0

unfoldable pub loose_form : Loose → List ℕ
loose_form v = fields loose_widths (loose_kind v ∷ loose_number v ∷ [])

-- a target is read as one of the edit list is, but that a link's number has 16 bits
abbrev pub target_from : ℕ → ℕ → Option (Option Target)
target_from kind x = cond (eqb kind 2 && leb (2 ^ 16) x) None (target_of kind x)

abbrev pub unbroken : Option Target → Loose
unbroken None = loose.None
unbroken (Some t) = loose.Target t

-- 3 is broken, with number 0 beside it; else none or a target
abbrev pub loose_from : ℕ → ℕ → Option Loose
loose_from kind x = cond (eqb kind 3) (cond (eqb x 0) (Some loose.Broken) None) (target_from kind x >>= λ t. Some (unbroken t))

unfoldable pub loose_in : List ℕ → Option Loose
loose_in r = loose_from (val (cut 0 1 r)) (val (cut 1 8 r))

-- a target that its bytes can hold
abbrev pub FitsTarget : Target → Type 0
FitsTarget (Object o) = (0 < o.0) × (o.0 < 2 ^ 64)
FitsTarget (Symbolic n) = n.0 < 2 ^ 16

abbrev pub FitsLoose : Loose → Type 0
FitsLoose loose.None = Unit {0}
FitsLoose (loose.Target t) = FitsTarget t
FitsLoose loose.Broken = Unit {0}

-- ---- a packed value: its object's number, 0 for none, 8 bytes

abbrev pub packed_number : Option ObjectNumber → ℕ
packed_number None = 0
packed_number (Some o) = o.0

unfoldable pub packed_form : Option ObjectNumber → List ℕ
packed_form v = fields (8 ∷ []) (packed_number v ∷ [])

abbrev pub packed_from : ℕ → Option ObjectNumber
packed_from x = cond (eqb x 0) None (Some (record { 0 = x }))

unfoldable pub packed_in : List ℕ → Option (Option ObjectNumber)
packed_in r = Some (packed_from (val (cut 0 8 r)))

abbrev pub FitsPacked : Option ObjectNumber → Type 0
FitsPacked None = Unit {0}
FitsPacked (Some o) = (0 < o.0) × (o.0 < 2 ^ 64)

-- ---- a lock: 0 free, 1 foreign, 2 ours, 1 byte

unfoldable pub lock_form : Lock → List ℕ
lock_form v = fields (1 ∷ []) (lock_byte v ∷ [])

unfoldable pub lock_in : List ℕ → Option Lock
lock_in r = lock_from (val (cut 0 1 r))

-- ---- a log line: name, previous, new, committer, message, 2 + 8 + 8 + 2 + 2 bytes

abbrev pub line_widths : List ℕ
line_widths = 2 ∷ 8 ∷ 8 ∷ 2 ∷ 2 ∷ []

abbrev pub line_numbers : Line → List ℕ
line_numbers l = l.name.0 ∷ l.previous.0 ∷ l.new.0 ∷ l.committer ∷ l.message ∷ []

unfoldable pub line_form : Line → List ℕ
line_form l = fields line_widths (line_numbers l)

abbrev pub line_from : List ℕ → Line
line_from xs = record {
  name = record { 0 = get_or xs 0 0 };
  previous = record { 0 = get_or xs 1 0 };
  new = record { 0 = get_or xs 2 0 };
  committer = get_or xs 3 0;
  message = get_or xs 4 0;
}

unfoldable pub line_in : List ℕ → Option Line
line_in r = Some (line_from (unfields 0 line_widths r))

pub record FitsLine (l : Line) : Type 0 where
  pub name : l.name.0 < 2 ^ 16
  pub previous : l.previous.0 < 2 ^ 64
  pub new : l.new.0 < 2 ^ 64
  pub committer : l.committer < 2 ^ 16
  pub message : l.message < 2 ^ 16
