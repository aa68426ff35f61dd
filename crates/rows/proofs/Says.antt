-- Names past the count: one has no bytes there, and these are not packable and not logged. Assumes nothing.
use mathlib.Core.Path.{◌≡◌, refl, sym, ap, ◌∙◌}
use mathlib.Core.Bool.{Bool, false}
use mathlib.Core.List.{List, []}
use Prim.Native.Nat.{ℕ, ◌≤◌}
use native.Mathlib.Omega.{arith}
use lib.ListN.{get_or-eq_default}
use lib.Dec.{ltb}
use borrow.Author.Tests.{le-ltb}
use Rattle.target.specs.declared.NameNumber.{NameNumber}
use Rattle.model.specs.declared.WriteReflog.{WriteReflog}
use Rattle.model.specs.declared.WriteReflog.TheVariants.{Disable, Normal, Always}
use Rattle.model.specs.Names.{packable, logs}
use Rattle.model.specs.Store.{Store, Entry, no_entry, count, name_of}

pub past_count : (s : Store) (name : NameNumber) → count s ≤ name.0 → name_of s name ≡ []
past_count s name h = ap (λ (e : Entry). e.name) (get_or-eq_default s.entries no_entry h)

pub none_packable : packable [] ≡ false
unfolding packable
none_packable = refl

pub none_logged : (setting : WriteReflog) → logs setting [] ≡ false
unfolding logs
none_logged Disable = refl
none_logged Normal = refl
none_logged Always = refl

-- a test of a name's bytes, which no bytes fail
pub test_past : (p : List ℕ → Bool) → p [] ≡ false → (s : Store) (name : NameNumber) (k m : ℕ) → k ≡ name.0 → m ≡ count s → m ≤ k → ltb k m ≡ p (name_of s name)
test_past p none s name k m ek em l =
    let h : count s ≤ name.0 = omega arith in
    le-ltb k m l ∙ sym (ap p (past_count s name h) ∙ none)
