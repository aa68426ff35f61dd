-- How the loops that look for one end. Assumes nothing.
use mathlib.Core.Path.{◌≡◌, sym, ap, ◌∙◌}
use mathlib.Core.Bool.{Bool, true, false}
use mathlib.Core.List.{List}
use Prim.Native.Nat.{ℕ, ◌<◌, ◌≤◌}
use Rattle.word.proofs.Tests.{some_true, Unmet, unmet_end}
use Rattle.target.specs.declared.NameNumber.{NameNumber}
use Rattle.target.proofs.Places.{at_place}
use Rattle.transaction.specs.declared.PackedRefs.{PackedRefs}
use Rattle.transaction.specs.declared.Edit.{Edit}
use Rattle.model.specs.Basic.{some_below}
use Rattle.model.specs.Store.{Store, count}
use Rattle.model.specs.Rows.{name_in, row_at}
use Rattle.model.specs.Beneath.{meets_earlier}
use Rattle.beneath.specs.Facing.{facing, some_facing, nested, meets}

-- ---- loose values above and beneath

module _ (up : Bool) (s : Store) (n : ℕ) (c : ℕ) (ec : c ≡ count s) where
  module _ (m : ℕ) (k : NameNumber) (ek : k ≡ record { 0 = m }) (r : Bool) (er : r ≡ facing up s n k.0) (l : m < c) where
    said : facing up s n m ≡ r
    said = ap (facing up s n) (sym (at_place k m ek)) ∙ sym er

    pub facing_here : r ≡ true → true ≡ some_facing up s n
    unfolding some_facing
    facing_here t = sym (some_true (count s) (facing up s n) m (rw ec at l) (said ∙ t))

  pub facing_end : (m : ℕ) → Unmet (facing up s n) c m → c ≤ m → false ≡ some_facing up s n
  unfolding some_facing
  facing_end m u l = unmet_end (facing up s n) c m u l ∙ ap (λ (k : ℕ). some_below k (facing up s n)) ec

-- the earlier rows of the row at place i
module _ (s : Store) (mode : PackedRefs) (rows : List Edit) (i : ℕ) (name : NameNumber) (en : name ≡ name_in (row_at rows i)) where
  earlier_is : some_below i (meets s mode rows name.0) ≡ meets_earlier s mode rows i
  unfolding meets_earlier meets nested
  earlier_is = ap (λ (k : NameNumber). some_below i (meets s mode rows k.0)) en

  module _ (j : ℕ) (l : j < i) (r : Bool) (er : r ≡ meets s mode rows name.0 j) where
    pub earlier_here : r ≡ true → true ≡ meets_earlier s mode rows i
    earlier_here t = sym (some_true i (meets s mode rows name.0) j l (sym er ∙ t)) ∙ earlier_is

  pub earlier_end : (j : ℕ) → Unmet (meets s mode rows name.0) i j → i ≤ j → false ≡ meets_earlier s mode rows i
  earlier_end j u l = unmet_end (meets s mode rows name.0) i j u l ∙ earlier_is
