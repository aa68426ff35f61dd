-- The settings record: what settings are, their bounds, what is written for them, and what is read of a record. Request 2026-01.
-- docs/SETTINGS.md shows it byte by byte.
use Rattle.model.specs.declared.Refusal.{Refusal}
use Rattle.std.specs.Prelude.{Bool, true, false, ◌&&◌, ◌||◌, cond, List, [], ◌∷◌, ◌++◌, ℕ, zero, suc, length, take, drop, eqb, ltb, leb, Option, Some, None, Result, Ok, Err}
use Rattle.std.proofs.Math.Pow.{are_bytes}
use Rattle.word.specs.Be.{val, be}
use Rattle.model.specs.declared.Refusal.TheVariants.{MalformedRecord, UnknownVersion}
use Rattle.model.specs.Basic.{every, collect}
use Rattle.model.specs.EditList.{◌>>=◌}
use Rattle.model.specs.Outcome.{or_refuse}

pub record Committer : Type 0 where
  pub number : ℕ
  pub name : List ℕ

pub record Settings : Type 0 where
  pub log : ℕ
  pub mode : ℕ
  pub committers : List Committer
  pub site : ℕ

-- ---- bounds: log setting 0 to 2, usual mode 1 to 3, up to 16 committers, site 0 to 65,535

abbrev pub within : ℕ → ℕ → ℕ → Bool
within least most x = leb least x && leb x most

-- a committer behind one with the number `last`: 1 to 65,535, rising; a name of 1 to 32 bytes
unfoldable pub follows : ℕ → Committer → Bool
follows last c = every (ltb last c.number ∷ leb c.number 65535 ∷ within 1 32 (length c.name) ∷ are_bytes c.name ∷ [])

unfoldable pub rising : ℕ → List Committer → Bool
rising last [] = true
rising last (c ∷ cs) = follows last c && rising c.number cs

unfoldable pub in_bounds : Settings → Bool
in_bounds s =
    every (
    within 0 2 s.log
    ∷ within 1 3 s.mode
    ∷ leb (length s.committers) 16
    ∷ rising 0 s.committers
    ∷ within 0 65535 s.site
    ∷ []
    )

-- ---- versions: 1, and 2, which adds the site

abbrev pub is_version : ℕ → Bool
is_version v = eqb v 1 || eqb v 2

abbrev pub has_site : ℕ → Bool
has_site v = eqb v 2

-- ---- writing: entries by rising tag, 1 log setting, 2 usual mode, 3 committers, 4 site

-- the length of its rest in 2 bytes, the tag, the content
unfoldable pub entry : ℕ → List ℕ → List ℕ
entry tag content = be 2 (length (tag ∷ content)) ++ (tag ∷ content)

-- a committer in the content: its number in 2 bytes, its name's length in 1, its name
unfoldable pub listed : Committer → List ℕ
listed c = be 2 c.number ++ (be 1 (length c.name) ++ c.name)

unfoldable pub site_entry : Bool → ℕ → List ℕ
site_entry false site = []
site_entry true site = entry 4 (be 2 site)

unfoldable pub entries : ℕ → Settings → List ℕ
entries v s =
    entry 1 (be 1 s.log)
    ++ (entry 2 (be 1 s.mode) ++ (entry 3 (collect listed s.committers) ++ site_entry (has_site v) s.site))

-- the version, the length of the rest in 2 bytes, the entries
unfoldable pub form : ℕ → Settings → List ℕ
form v s = v ∷ (be 2 (length (entries v s)) ++ entries v s)

-- version 1 is written for site 0 only
unfoldable pub writable : ℕ → Settings → Bool
writable v s = in_bounds s && (has_site v || eqb s.site 0)

-- 24 another version, then 23 out of bounds
unfoldable pub write : ℕ → Settings → Result (List ℕ) Refusal
write v s = cond (is_version v) (cond (writable v s) (Ok (form v s)) (Err MalformedRecord)) (Err UnknownVersion)

-- ---- reading

-- the first k bytes, and what stands behind them
pub record Split : Type 0 where
  pub front : List ℕ
  pub behind : List ℕ

unfoldable pub split : ℕ → List ℕ → Option Split
split k r = cond (leb k (length r)) (Some (record { front = take k r; behind = drop k r })) None

-- an entry with this tag: its content, and what stands behind it
abbrev pub tagged : ℕ → List ℕ → List ℕ → Option Split
tagged tag [] behind = None
tagged tag (t ∷ content) behind = cond (eqb t tag) (Some (record { front = content; behind = behind })) None

unfoldable pub entry_in : ℕ → List ℕ → Option Split
entry_in tag r = do
  size ← split 2 r
  rest ← split (val size.front) size.behind
  tagged tag rest.front rest.behind

-- an entry whose content is a number of w bytes, from the least to the most
pub record Number : Type 0 where
  pub value : ℕ
  pub behind : List ℕ

abbrev pub numbered : Bool → Split → Option Number
numbered false e = None
numbered true e = Some (record { value = val e.front; behind = e.behind })

unfoldable pub number_in : ℕ → ℕ → ℕ → ℕ → List ℕ → Option Number
number_in tag w least most r = do
  e ← entry_in tag r
  numbered (eqb (length e.front) w && within least most (val e.front)) e

-- a committer behind one with the number `last`, and what stands behind it
pub record Named : Type 0 where
  pub committer : Committer
  pub behind : List ℕ

abbrev pub followed : Bool → Committer → List ℕ → Option Named
followed false c behind = None
followed true c behind = Some (record { committer = c; behind = behind })

unfoldable pub committer_in : ℕ → List ℕ → Option Named
committer_in last r = do
  number ← split 2 r
  size ← split 1 number.behind
  name ← split (val size.front) size.behind
  let c : Committer = record { number = val number.front; name = name.front } in followed (follows last c) c name.behind

-- up to k of them, to the end of the content
unfoldable pub committers_in : ℕ → ℕ → List ℕ → Option (List Committer)
committers_in zero last [] = Some []
committers_in zero last (b ∷ r) = None
committers_in (suc k) last [] = Some []
committers_in (suc k) last (b ∷ r) = do
  first ← committer_in last (b ∷ r)
  others ← committers_in k first.committer.number first.behind
  Some (first.committer ∷ others)

-- the last entry: nothing stands behind it
abbrev pub ended : List ℕ → ℕ → Option ℕ
ended [] x = Some x
ended (b ∷ r) x = None

unfoldable pub site_in : Bool → List ℕ → Option ℕ
site_in false r = ended r 0
site_in true r = do
  site ← number_in 4 2 0 65535 r
  ended site.behind site.value

unfoldable pub entries_in : ℕ → List ℕ → Option Settings
entries_in v r = do
  log ← number_in 1 1 0 2 r
  mode ← number_in 2 1 1 3 log.behind
  list ← entry_in 3 mode.behind
  committers ← committers_in 16 0 list.front
  site ← site_in (has_site v) list.behind
  Some (record { log = log.value; mode = mode.value; committers = committers; site = site })

-- behind the version: the length of the rest, and the entries
abbrev pub framed : ℕ → Split → Option Settings
framed v size = cond (eqb (val size.front) (length size.behind)) (entries_in v size.behind) None

unfoldable pub settings_in : ℕ → List ℕ → Option Settings
settings_in v r = do
  size ← split 2 r
  framed v size

-- 23 an empty record; 24 a version that the reader does not know; then 23. What a slice holds are bytes; on other numbers this is total too
abbrev pub read_as : ℕ → List ℕ → Result Settings Refusal
read_as known [] = Err MalformedRecord
read_as known (v ∷ r) =
    cond (is_version v && leb v known) (or_refuse MalformedRecord (cond (are_bytes r) (settings_in v r) None)) (Err UnknownVersion)

-- a reader is told which version it knows: 1, or 2, which knows both; 24 another one
unfoldable pub read : ℕ → List ℕ → Result Settings Refusal
read known r = cond (is_version known) (read_as known r) (Err UnknownVersion)
