-- What the functions of this crate say of a line, by the model's definitions.
use Rattle.model.specs.declared.Refusal.{Refusal}
use Rattle.std.specs.Prelude.{◌≡◌, Bool, true, List, ℕ, ◌≤◌, length, drop, Option, Some, None, Result, Ok, Err}
use Rattle.word.specs.Codec.{is_some}
use Rattle.model.specs.declared.Refusal.TheVariants.{BadLoad, MalformedLine}
use Rattle.model.specs.Basic.{all}
use Rattle.model.specs.PackedText.{Ref, is_digit, ref_in, ref_said, line_said}
use Rattle.texts.specs.declared.Said.{Said}
use Rattle.texts.specs.declared.Said.TheVariants as said

-- at most sixteen digits, which make a number of 64 bits
pub record Digits (ds : List ℕ) : Type 0 where
  pub few : length ds ≤ 16
  pub digits : all is_digit ds ≡ true

-- the ref of a line, by its object
abbrev pub ref_by : Option ℕ → List ℕ → Option Ref
ref_by None l = None
ref_by (Some x) l = Some (record { name = drop 41 l; object = x })

-- what line i says
abbrev pub said_by : Said → ℕ → List ℕ → Result (Option Ref) Refusal
said_by said.Malformed i l = Err (MalformedLine i)
said_by said.Unpackable i l = Err BadLoad
said_by said.Nothing i l = Ok None
said_by said.Ref i l = Ok (ref_in l)

-- and then it is a ref line
abbrev pub Sure : Said → List ℕ → Type 0
Sure said.Malformed l = Unit {0}
Sure said.Unpackable l = Unit {0}
Sure said.Nothing l = Unit {0}
Sure said.Ref l = is_some (ref_in l) ≡ true

-- whatever the line's number
pub record SaysRef (r : Said) (last l : List ℕ) : Type 0 where
  pub says : (i : ℕ) → said_by r i l ≡ ref_said i last (ref_in l)
  pub sure : Sure r l

pub record SaysLine (r : Said) (last : List ℕ) (direct : Bool) (l : List ℕ) : Type 0 where
  pub says : (i : ℕ) → said_by r i l ≡ line_said i last direct l
  pub sure : Sure r l
