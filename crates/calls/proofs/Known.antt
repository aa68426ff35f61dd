-- The test of a name number, whose refusal is 3. Assumes nothing.
use Rattle.std.specs.Prelude.{Option, Some, None, Ok, Err}
use mathlib.Core.Path.{◌≡◌, refl}
use mathlib.Core.Bool.{Bool, true, false}
use mathlib.Core.List.{List}
use Prim.Native.Nat.{ℕ, ◌<◌}
use native.Mathlib.Omega.{arith}
use lib.Dec.{ltb}
use borrow.Author.Tests.{ltb-true}
use Rattle.target.specs.declared.NameNumber.{NameNumber}
use Rattle.target.specs.Fields.{name_below}
use Rattle.model.specs.declared.Refusal.TheVariants.{NotRegistered}
use Rattle.model.specs.Store.{Store, count}
use Rattle.model.specs.Reply.{known}
use Rattle.region.specs.Region.{view}

-- o is the name of the number, if it is registered
module _ (n : ℕ) (s : Store) (o : Option NameNumber) (e : o ≡ name_below (count s) n) where
  pub is_far : o ≡ None → ltb n (count s) ≡ false
  is_far h = go (ltb n (count s)) refl
    where
      go : (b : Bool) → ltb n (count s) ≡ b → b ≡ false
      go true p = absurd (let q : o ≡ Some (record { 0 = n }) = rw p at e in let z : ◌≡◌ {A = ℕ} 0 1 = cc in omega arith)
      go false p = refl

  pub known_far : o ≡ None → known n s ≡ Err (NotRegistered n)
  known_far h = rw (is_far h)

  module _ (m : NameNumber) (h : o ≡ Some m) where
    pub is_below : (ltb n (count s) ≡ true) × (m ≡ record { 0 = n })
    is_below = go (ltb n (count s)) refl
      where
        go : (b : Bool) → ltb n (count s) ≡ b → (b ≡ true) × (m ≡ record { 0 = n })
        go true p = (refl, let q : o ≡ Some (record { 0 = n }) = rw p at e in cc)
        go false p = absurd (let q : o ≡ None = rw p at e in let z : ◌≡◌ {A = ℕ} 0 1 = cc in omega arith)

    pub known_near : known n s ≡ Ok tt
    known_near = rw is_below.0

    pub known_as : m ≡ record { 0 = n }
    known_as = is_below.1

-- what accessors of a name ask for
pub near : (n : ℕ) (r : List ℕ) (o : Option NameNumber) (m : NameNumber) → o ≡ name_below (count (view r)) n → o ≡ Some m → m.0 < count (view r)
near n r o m e h = let l : n < count (view r) = ltb-true n (count (view r)) (is_below n (view r) o e m h).0 in rw (is_below n (view r) o e m h).1 l
