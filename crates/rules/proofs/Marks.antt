-- Marks of names: gathered once, and looked at before two names are compared. Assumes nothing.
use mathlib.Core.Path.{◌≡◌, refl, sym, ap, ◌∙◌}
use mathlib.Core.Bool.{Bool, true, false, not}
use mathlib.Core.List.{List}
use Prim.Native.Nat.{ℕ, ◌+◌, ◌<◌}
use lib.ListN.{length, get_or}
use lib.Dec.{eqb}
use borrow.Author.Tests.{ne_eqb}
use Rattle.word.specs.Tests.{same_list}
use Rattle.word.proofs.Tests.{same_list_true, below_more, below_false}
use Rattle.model.specs.Basic.{below}
use Rattle.model.specs.Store.{Store, count, entry_at}
use Rattle.model.specs.Fine.{apart_names}
use Rattle.rules.specs.Marks.{mark_of, Marked}

-- so far those of the first n names
pub record Marking (s : Store) (n : ℕ) (marks : List ℕ) : Type 0 where
  pub size : length marks ≡ 256
  pub mark : (i : ℕ) → i < n → get_or marks i 0 ≡ mark_of (entry_at s i).name

-- ---- two names

module _ (s : Store) (marks : List ℕ) (n m : ℕ) (k : Marked s marks) (h : (n < count s) × (m < count s)) where
  -- other marks: other names
  pub names_other : (get_or marks n 0 ≡ get_or marks m 0 → ⊥) → not (eqb (get_or marks n 0) (get_or marks m 0)) ≡ apart_names s n m
  names_other d = rw (ne_eqb _ _ d) (go (same_list (entry_at s n).name (entry_at s m).name) refl)
    where
      go : (b : Bool) → same_list (entry_at s n).name (entry_at s m).name ≡ b → true ≡ not b
      go true e = absurd (d (k.mark n h.0 ∙ ap mark_of (same_list_true (entry_at s n).name (entry_at s m).name e) ∙ sym (k.mark m h.1)))
      go false e = refl

module _ (s : Store) (n m : ℕ) (t : Bool) (e : not t ≡ apart_names s n m) where
  pub name_more : below m (apart_names s n) ≡ true → t ≡ false → below (m + 1) (apart_names s n) ≡ true
  name_more h u = below_more m (apart_names s n) h (sym e ∙ ap not u)

  pub name_stop : m < n → t ≡ true → false ≡ below n (apart_names s n)
  name_stop h u = sym (below_false n (apart_names s n) m h (sym e ∙ ap not u))
