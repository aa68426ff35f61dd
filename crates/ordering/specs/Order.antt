-- Names in order by number, and what the sorting leaves.
use Rattle.target.specs.declared.ObjectNumber.{ObjectNumber}
use Rattle.std.specs.Prelude.{◌≡◌, List, ◌∷◌, ◌++◌, map, ℕ, ◌+◌, ◌≤◌, length, take, drop, Option, Some, None}
use Rattle.model.specs.Store.{Store, entry_at}
use Rattle.model.specs.PackedText.{Ref, insert, sorted}

-- the ref of a name
abbrev pub object_in : Option ObjectNumber → ℕ
object_in None = 0
object_in (Some o) = o.0

abbrev pub ref_at : Store → ℕ → Ref
ref_at s n = record { name = (entry_at s n).name; object = object_in (entry_at s n).packed }

-- the refs of the first numbers
unfoldable pub first_at : Store → ℕ → List ℕ → List Ref
first_at s count numbers = map (ref_at s) (take count numbers)

-- in its place the name's ref is among them as it is to be inserted
pub record Places (s : Store) (numbers : List ℕ) (count n r : ℕ) : Type 0 where
  pub inside : r ≤ count
  pub place : insert (ref_at s n) (first_at s count numbers) ≡ take r (first_at s count numbers) ++ (ref_at s n ∷ drop r (first_at s count numbers))

-- from `at` on all stand one further, and the number there stands twice
abbrev pub opened : List ℕ → ℕ → ℕ → List ℕ
opened xs at count = take (at + 1) xs ++ (drop at (take count xs) ++ drop (count + 1) xs)

pub record Opened (xs : List ℕ) (at count : ℕ) (ys : List ℕ) : Type 0 where
  pub moved : ys ≡ opened xs at count

-- the entries from n on are sorted
pub record Ordered (s : Store) (n : ℕ) (numbers : List ℕ) (count : ℕ) : Type 0 where
  pub size : length numbers ≡ 256
  pub few : count + n ≤ 256
  pub sorts : first_at s count numbers ≡ sorted (drop n s.entries)
