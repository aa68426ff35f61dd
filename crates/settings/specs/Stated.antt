-- What is proved of the settings record. The proofs stand in proofs/Stated.antt.
use Rattle.std.specs.Prelude.{◌≡◌, true, List, ◌∷◌, ℕ, ◌≤◌, ◌<◌, length, get_or, Ok, Err}
use Rattle.word.specs.Be.{cut}
use Rattle.model.specs.declared.Refusal.TheVariants.{UnknownVersion}
use Rattle.settings.specs.Format.{Settings, is_version, write, read}
use Rattle.settings.specs.Lent.{committer_at, name_at}

-- Reading what was written gives the same settings. (Version 1 is written for site 0 alone.)
abbrev pub ReadWritten : Type 0
ReadWritten =
    (known v : ℕ) (s : Settings) (r : List ℕ) → is_version known ≡ true → v ≤ known → write v s ≡ Ok r → read known r ≡ Ok s

-- What a reader accepts is what the writer gives for it, in the version that the record has.
abbrev pub WrittenRead : Type 0
WrittenRead = (known : ℕ) (r : List ℕ) (s : Settings) → read known r ≡ Ok s → write (get_or r 0 0) s ≡ Ok r

-- So one set of settings has one encoding in each version.
abbrev pub OneEncoding : Type 0
OneEncoding =
    (known known' : ℕ) (r r' : List ℕ) (s : Settings) → get_or r 0 0 ≡ get_or r' 0 0
    → read known r ≡ Ok s → read known' r' ≡ Ok s → r ≡ r'

-- A version 1 reader refuses version 2, and agrees with the version 2 reader on version 1, where the site is 0.
abbrev pub OldRefuses : Type 0
OldRefuses = (r : List ℕ) → read 1 (2 ∷ r) ≡ Err UnknownVersion

abbrev pub OldAgrees : Type 0
OldAgrees = (r : List ℕ) → read 1 (1 ∷ r) ≡ read 2 (1 ∷ r)

abbrev pub OldSite : Type 0
OldSite = (known : ℕ) (r : List ℕ) (s : Settings) → read known (1 ∷ r) ≡ Ok s → s.site ≡ 0

-- The name of a committer is that stretch of the record.
abbrev pub NameStands : Type 0
NameStands =
    (known : ℕ) (r : List ℕ) (s : Settings) (i : ℕ) → read known r ≡ Ok s → i < length s.committers
    → cut (name_at i s) (length (committer_at s i).name) r ≡ (committer_at s i).name

-- No record is longer than 579 bytes.
abbrev pub Short : Type 0
Short = (v : ℕ) (s : Settings) (r : List ℕ) → write v s ≡ Ok r → length r ≤ 579
