-- The examples of docs/SETTINGS.md, by computing: what is written for them, and what each reader makes of that. Assumes nothing.
use Rattle.std.specs.Prelude.{Ok, Err}
use mathlib.Core.Path.{◌≡◌, refl}
use mathlib.Core.List.{List, [], ◌∷◌, ◌++◌}
use Prim.Native.Nat.{ℕ}
use lib.ListN.{take}
use Rattle.word.specs.Be.{be, be_on, val, val_on}
use Rattle.model.specs.declared.Refusal.TheVariants.{MalformedRecord, UnknownVersion}
use Rattle.model.specs.Basic.{text}
use Rattle.settings.specs.Format.{Settings, write, read}
use Rattle.settings.specs.Lent.{name_at}
use Rattle.settings.specs.Format.{follows, rising, in_bounds, entry, listed, site_entry, entries, form, writable, split, entry_in}
use Rattle.settings.specs.Format.{number_in, committer_in, committers_in, site_in, entries_in, settings_in}
use Rattle.settings.specs.Lent.{name_in}

-- opens every definition, for claims that compute
unfoldable open_all : Unit {0}
unfolding be be_on val val_on write read follows rising in_bounds entry listed site_entry entries form writable split entry_in number_in committer_in committers_in site_in entries_in settings_in name_in
open_all = tt

of_site : ℕ → Settings
of_site site = record {
  log = 1;
  mode = 1;
  committers = record { number = 12; name = text "planner" } ∷ record { number = 40; name = text "night shift" } ∷ [];
  site = site;
}

front : ℕ → ℕ → List ℕ
front version rest =
    version ∷ 0 ∷ rest
    ∷ 0 ∷ 2 ∷ 1 ∷ 1
    ∷ 0 ∷ 2 ∷ 2 ∷ 1
    ∷ 0 ∷ 25 ∷ 3
    ∷ 0 ∷ 12 ∷ 7 ∷ text "planner"
    ++ (0 ∷ 40 ∷ 11 ∷ text "night shift")

old : List ℕ
old = front 1 35

new : List ℕ
new = front 2 40 ++ (0 ∷ 3 ∷ 4 ∷ 0 ∷ 7 ∷ [])

written_old : write 1 (of_site 0) ≡ Ok old
unfolding open_all of_site old front
written_old = refl

written_new : write 2 (of_site 7) ≡ Ok new
unfolding open_all of_site new front
written_new = refl

read_old : read 1 old ≡ Ok (of_site 0)
unfolding open_all of_site old front
read_old = refl

read_new : read 2 new ≡ Ok (of_site 7)
unfolding open_all of_site new front
read_new = refl

-- an older reader refuses it by name; version 1 has no place for site 7; a byte is missing, or is too many
refused_new : read 1 new ≡ Err UnknownVersion
unfolding open_all new front
refused_new = refl

no_place : write 1 (of_site 7) ≡ Err MalformedRecord
unfolding open_all of_site
no_place = refl

cut_short : read 2 (take 42 new) ≡ Err MalformedRecord
unfolding open_all new front
cut_short = refl

too_long : read 2 (old ++ (0 ∷ [])) ≡ Err MalformedRecord
unfolding open_all old front
too_long = refl

-- where the second committer's name stands
second_name : name_at 1 (of_site 7) ≡ 27
unfolding open_all of_site
second_name = refl
