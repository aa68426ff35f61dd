-- What the code tells of writing a record, and the committers that it is given.
use Rattle.model.specs.declared.Refusal.{Refusal}
use Rattle.std.specs.Prelude.{◌≡◌, Bool, true, false, ◌||◌, cond, List, [], ◌∷◌, ◌++◌, ℕ, ◌+◌, ◌*◌, length, eqb, Option, Some, None, Result, Ok, Err, unwrap_or}
use Rattle.word.specs.Be.{be}
use Rattle.word.specs.Codec.{is_some}
use Rattle.model.specs.Basic.{every, collect}
use Rattle.settings.specs.Format.{Committer, Settings, within, rising, is_version, has_site, entry, writable, listed}
use Rattle.settings.specs.Lent.{committers_given, settings_given, fitted, afterwards}

-- committers were given, and they are in bounds
abbrev pub given_rising : ℕ → Option (List Committer) → Bool
given_rising last None = false
given_rising last (Some cs) = rising last cs

-- settings were given, and they can be written in this version
abbrev pub given_writable : ℕ → Option Settings → Bool
given_writable v None = false
given_writable v (Some s) = writable v s

-- the committers given, and their bytes in a record
abbrev pub committers_from : List ℕ → List ℕ → List ℕ → List Committer
committers_from numbers lengths names = unwrap_or (committers_given numbers lengths names) []

unfoldable pub content_from : List ℕ → List ℕ → List ℕ → List ℕ
content_from numbers lengths names = collect listed (committers_from numbers lengths names)

-- how long their bytes are: 3 for each, and their names
abbrev pub content_length : List ℕ → List ℕ → ℕ
content_length numbers names = 3 * length numbers + length names

-- committers are given, and a slot is as long as their bytes
pub record Slot (numbers lengths names slot : List ℕ) : Type 0 where
  pub given : is_some (committers_given numbers lengths names) ≡ true
  pub sized : length slot ≡ content_length numbers names

-- the settings given, where committers are
abbrev pub settings_from : ℕ → ℕ → ℕ → List ℕ → List ℕ → List ℕ → Settings
settings_from log mode site numbers lengths names =
    record { log = log; mode = mode; committers = committers_from numbers lengths names; site = site }

-- the tests of the numbers alone
unfoldable pub numbers_fit : ℕ → ℕ → ℕ → ℕ → Bool
numbers_fit v log mode site = every (within 0 2 log ∷ within 1 3 mode ∷ within 0 65535 site ∷ (has_site v || eqb site 0) ∷ [])

-- all that stands before the committers' content
unfoldable pub front_bytes : ℕ → ℕ → ℕ → ℕ → ℕ → List ℕ
front_bytes v rest log mode content =
    be 1 v ++ (be 2 rest ++ (entry 1 (be 1 log) ++ (entry 2 (be 1 mode) ++ (be 2 (1 + content) ++ be 1 3))))

-- how long a record is whose committers' content has so many bytes
abbrev pub length_for : ℕ → ℕ → ℕ
length_for v content = cond (has_site v) (14 + content + 3 + 2) (14 + content)

-- settings that can be written, and a slot that is as long as their record
pub record Ready (v log mode site : ℕ) (numbers lengths names slot : List ℕ) : Type 0 where
  pub version : is_version v ≡ true
  pub fits : given_writable v (settings_given log mode site (committers_given numbers lengths names)) ≡ true
  pub sized : length slot ≡ length_for v (content_length numbers names)

-- the length of what is written
abbrev pub length_in : Result (List ℕ) Refusal → Result ℕ Refusal
length_in (Err x) = Err x
length_in (Ok r) = Ok (length r)

-- a write of `o` into the buffer b: what is told, and the buffer as it is left
pub record Wrote (w : (Result ℕ Refusal)) (b b' : List ℕ) (o : Result (List ℕ) Refusal) : Type 0 where
  pub told : w ≡ length_in (fitted b o)
  pub left : b' ≡ afterwards b (fitted b o)
