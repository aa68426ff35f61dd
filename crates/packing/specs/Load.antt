-- Refs loaded one by one, and how many names that takes: what the functions of this crate leave, as total functions of a store.
use Rattle.std.specs.Prelude.{◌≡◌, Bool, true, ◌&&◌, cond, List, [], ◌∷◌, ◌++◌, ℕ, ◌+◌, ◌≤◌, ◌<◌, length, leb, Option, Some, None, Ok}
use Rattle.word.specs.Codec.{is_some}
use Rattle.word.specs.Tests.{every}
use Rattle.target.specs.declared.NameNumber.{NameNumber}
use Rattle.model.specs.Basic.{all}
use Rattle.model.specs.Names.{is_name, packable}
use Rattle.model.specs.Store.{Store, Entry, count, is_id, with_entries}
use Rattle.model.specs.Load.{number_from, new_entry}
use Rattle.model.specs.PackedText.{Ref, packed_as, loaded}
use Rattle.region.specs.Region.{view, Laid}

-- ---- room

-- how many names are held with that of a line, where k are held before it
abbrev pub held_with : List Entry → Option Ref → ℕ → ℕ
held_with es None k = k
held_with es (Some r) k = cond (is_some (number_from 0 r.name es)) k (k + 1)

-- 256 at most, with every one of the refs
abbrev pub fits : List Entry → ℕ → List Ref → Bool
fits es k [] = true
fits es k (r ∷ rs) = leb (held_with es (Some r) k) 256 && fits es (held_with es (Some r) k) rs

-- ---- a name

abbrev pub entered : List ℕ → Store → Option ℕ → Store
entered name s (Some n) = s
entered name s None = with_entries s (s.entries ++ (new_entry name ∷ []))

abbrev pub number_as : Store → Option ℕ → ℕ
number_as s (Some n) = n
number_as s None = count s

-- it is known, or has room
pub record Numbers (name : List ℕ) (s : Store) : Type 0 where
  pub short : length name ≤ 64
  pub room : number_from 0 name s.entries ≡ None → count s < 256

pub record Numbered (name : List ℕ) (s : Store) (n : NameNumber) (r : List ℕ) : Type 0 where
  pub laid : Laid r
  pub seen : view r ≡ entered name s (number_from 0 name s.entries)
  pub number : n.0 ≡ number_as s (number_from 0 name s.entries)
  pub below : n.0 < count (view r)

-- ---- a line

abbrev pub can_load : Ref → Bool
can_load r = every (is_name r.name ∷ is_id r.object ∷ packable r.name ∷ [])

abbrev pub after_ref : Ref → Store → Store
after_ref r s =
    packed_as r (number_as s (number_from 0 r.name s.entries)) (entered r.name s (number_from 0 r.name s.entries))

abbrev pub after_line : Option Ref → Store → Store
after_line None s = s
after_line (Some r) s = after_ref r s

pub record LineLoads (o : Option Ref) (s : Store) : Type 0 where
  pub can : (r : Ref) → o ≡ Some r → can_load r ≡ true
  pub room : (r : Ref) → o ≡ Some r → number_from 0 r.name s.entries ≡ None → count s < 256

pub record LineLoaded (o : Option Ref) (s : Store) (r : List ℕ) : Type 0 where
  pub laid : Laid r
  pub seen : view r ≡ after_line o s

-- ---- lines

abbrev pub after_refs : List Ref → Store → Store
after_refs [] s = s
after_refs (r ∷ rs) s = after_refs rs (after_ref r s)

-- all can be loaded, and their names have room
pub record LinesLoad (rs : List Ref) (s : Store) : Type 0 where
  pub can : all can_load rs ≡ true
  pub then : Store
  pub loads : loaded rs s ≡ Ok then

pub record LinesLoaded (rs : List Ref) (s : Store) (r : List ℕ) : Type 0 where
  pub laid : Laid r
  pub seen : view r ≡ after_refs rs s
