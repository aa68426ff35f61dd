-- What the code tells of a record: the forms of its answers, each a part of what the format's definitions give.
use Rattle.model.specs.declared.Refusal.{Refusal}
use Rattle.std.specs.Prelude.{cond, List, [], ℕ, ◌+◌, ◌-◌, ◌≤◌, ◌<◌, length, get_or, ltb, Option, Some, None, Result, Ok, Err, unwrap_or}
use Rattle.word.specs.Be.{cut, val}
use Rattle.model.specs.declared.Refusal.TheVariants.{NothingThere}
use Rattle.model.specs.EditList.{◌>>=◌}
use Rattle.settings.specs.declared.Heading.{Heading}
use Rattle.reader.specs.declared.Tail.{Tail}
use Rattle.reader.specs.declared.Summary.{Summary}
use Rattle.reader.specs.declared.Stretch.{Stretch}
use Rattle.settings.specs.Format.{Committer, Settings, Split, Number, Named, has_site, entry_in, committers_in, site_in}
use Rattle.settings.specs.Lent.{no_committer, committer_at, name_in, name_at}

-- ---- entries

-- how long the content of an entry is
abbrev pub size_in : Option Split → Option ℕ
size_in None = None
size_in (Some e) = Some (length e.front)

abbrev pub value_in : Option Number → Option ℕ
value_in None = None
value_in (Some n) = Some n.value

-- ---- committers

abbrev pub heading_of : Committer → Heading
heading_of c = record { number = c.number; length = length c.name }

abbrev pub heading_in : Option Named → Option Heading
heading_in None = None
heading_in (Some n) = Some (heading_of n.committer)

abbrev pub count_in : Option (List Committer) → Option ℕ
count_in None = None
count_in (Some cs) = Some (length cs)

-- ---- the record

unfoldable pub tail_in : ℕ → List ℕ → Option Tail
tail_in v r = do
  list ← entry_in 3 r
  committers ← committers_in 16 0 list.front
  site ← site_in (has_site v) list.behind
  Some (record { committers = length committers; site = site })

abbrev pub summary_of : Settings → Summary
summary_of s = record { log = s.log; mode = s.mode; site = s.site; committers = length s.committers }

abbrev pub summary_in : Option Settings → Option Summary
summary_in None = None
summary_in (Some s) = Some (summary_of s)

-- what reading tells: 24, 23, or the settings' numbers and how many committers there are
abbrev pub told : Result Settings Refusal → Result Summary Refusal
told (Err x) = Err x
told (Ok s) = Ok (summary_of s)

-- ---- a committer by place

-- the committers of a content; none where it is malformed
unfoldable pub committers_of : ℕ → ℕ → List ℕ → List Committer
committers_of k last r = unwrap_or (committers_in k last r) []

-- its number, and where its name stands in the content
abbrev pub placed : ℕ → List Committer → Stretch
placed i cs = record { number = (get_or cs i no_committer).number; at = name_in i cs; length = length (get_or cs i no_committer).name }

-- where the committers' content stands in a record that was read, and its bytes
abbrev pub content_end : List ℕ → ℕ
content_end r = 13 + val (cut 11 2 r)

abbrev pub content_at : List ℕ → List ℕ
content_at r = cut 14 (val (cut 11 2 r) - 1) r

-- a record whose content has a committer at the place
pub record Lists (place : ℕ) (r : List ℕ) : Type 0 where
  pub tag : 1 ≤ val (cut 11 2 r)
  pub whole : content_end r ≤ length r
  pub there : place < length (committers_of 16 0 (content_at r))

-- a place in the content as a place in the record
abbrev pub from_first : Stretch → Stretch
from_first s = record { number = s.number; at = 14 + s.at; length = s.length }

-- its number, and where its name stands in the record
abbrev pub stretch_of : ℕ → Settings → Stretch
stretch_of i s = record { number = (committer_at s i).number; at = name_at i s; length = length (committer_at s i).name }

-- 22: no such place
abbrev pub committer_found : ℕ → Result Settings Refusal → Result Stretch Refusal
committer_found i (Err x) = Err x
committer_found i (Ok s) = cond (ltb i (length s.committers)) (Ok (stretch_of i s)) (Err NothingThere)

-- the bytes of its name: that stretch of the record, and nothing where there is none
abbrev pub stretch_in : Result Stretch Refusal → List ℕ → List ℕ
stretch_in (Err x) r = []
stretch_in (Ok s) r = cut s.at s.length r
