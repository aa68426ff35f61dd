-- Settings as they are lent: where a committer's name stands in a record, settings as a foreign writer gives them, and a record that is
-- put into a buffer.
use Rattle.model.specs.declared.Refusal.{Refusal}
use Rattle.std.specs.Prelude.{cond, List, [], ◌∷◌, ◌++◌, ℕ, zero, suc, ◌+◌, length, drop, get_or, leb, Option, Some, None, Result, Ok, Err}
use Rattle.model.specs.declared.Refusal.TheVariants.{MalformedRecord, UnknownVersion, ShortBuffer}
use Rattle.model.specs.EditList.{◌>>=◌}
use Rattle.settings.specs.Format.{Committer, Settings, is_version, listed, write, split}

-- ---- places

abbrev pub no_committer : Committer
no_committer = record { number = 0; name = [] }

abbrev pub committer_at : Settings → ℕ → Committer
committer_at s i = get_or s.committers i no_committer

-- where the name of the i-th committer stands in the content, behind its number and its length; past the last nothing reads
unfoldable pub name_in : ℕ → List Committer → ℕ
name_in i [] = 3
name_in zero (c ∷ cs) = 3
name_in (suc i) (c ∷ cs) = length (listed c) + name_in i cs

-- and in the record, where the content of the committers' entry begins at byte 14
abbrev pub name_at : ℕ → Settings → ℕ
name_at i s = 14 + name_in i s.committers

-- ---- settings as a foreign writer gives them: numbers, the committers' numbers, the lengths of their names, and the names' bytes
-- one after the other

unfoldable pub committers_given : List ℕ → List ℕ → List ℕ → Option (List Committer)
committers_given [] [] [] = Some []
committers_given [] [] (b ∷ names) = None
committers_given [] (k ∷ lengths) names = None
committers_given (n ∷ numbers) [] names = None
committers_given (n ∷ numbers) (k ∷ lengths) names = do
  name ← split k names
  others ← committers_given numbers lengths name.behind
  Some (record { number = n; name = name.front } ∷ others)

abbrev pub settings_given : ℕ → ℕ → ℕ → Option (List Committer) → Option Settings
settings_given log mode site None = None
settings_given log mode site (Some committers) = Some (record { log = log; mode = mode; committers = committers; site = site })

-- 24 before 23, here too
abbrev pub write_some : ℕ → Option Settings → Result (List ℕ) Refusal
write_some v None = Err MalformedRecord
write_some v (Some s) = write v s

unfoldable pub write_given : ℕ → Option Settings → Result (List ℕ) Refusal
write_given v o = cond (is_version v) (write_some v o) (Err UnknownVersion)

-- ---- into a buffer: 33 exactly when it is too short; bytes past the record stay, and on a refusal all do

abbrev pub fitted : List ℕ → Result (List ℕ) Refusal → Result (List ℕ) Refusal
fitted b (Err x) = Err x
fitted b (Ok r) = cond (leb (length r) (length b)) (Ok r) (Err ShortBuffer)

abbrev pub afterwards : List ℕ → Result (List ℕ) Refusal → List ℕ
afterwards b (Err x) = b
afterwards b (Ok r) = r ++ drop (length r) b
