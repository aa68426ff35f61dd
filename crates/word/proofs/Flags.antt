-- Flags go up one by one. Assumes nothing.
use mathlib.Core.Path.{◌≡◌, refl, sym, ap, ◌∙◌, subst}
use mathlib.Core.Bool.{Bool, true, false, ◌||◌}
use mathlib.Core.List.{List, [], ◌∷◌}
use Prim.Native.Nat.{ℕ, zero, suc, ◌<◌, ◌≤◌}
use native.Mathlib.Nat.{not-suc-le-zero, le_of_suc-le-suc}
use native.Mathlib.Omega.{arith}
use lib.ListN.{length, get_or, set, replicate, length-replicate, length-set}
use lib.Seq.{set_out, get_or-set_same, get_or-set_other}
use lib.Dec.{eqb}
use borrow.Author.Tests.{eqb-true, eqb-false}
use Rattle.word.specs.Flags.{Flags, nowhere}

-- a flag that is not there cannot go up
pub raise_none : (flags : List Bool) (k : ℕ) → length flags ≤ k → flags ≡ set flags k true
raise_none flags k l = sym (set_out flags k true l)

-- and is not up
pub no_flag : (flags : List Bool) (k : ℕ) → length flags ≤ k → false ≡ get_or flags k false
no_flag [] k h = refl
no_flag (b ∷ flags) zero h = absurd (not-suc-le-zero h)
no_flag (b ∷ flags) (suc k) h = no_flag flags k (le_of_suc-le-suc h)

low : (n k : ℕ) → get_or (replicate n false) k false ≡ false
low zero k = refl
low (suc n) zero = refl
low (suc n) (suc k) = low n k

-- all are down at first
pub all_down : Flags nowhere (replicate 256 false)
all_down = record { size = length-replicate 256 false; flag = λ n h. low 256 n }

-- one flag goes up, and the others are as they were
pub flag_raised : (flags : List Bool) (k n : ℕ) → n < length flags → get_or (set flags k true) n false ≡ (eqb k n || get_or flags n false)
flag_raised flags k n h = go (eqb k n) refl
  where
    go : (t : Bool) → eqb k n ≡ t → get_or (set flags k true) n false ≡ (t || get_or flags n false)
    go true q =
        let e : k ≡ n = eqb-true k n q in
        ap (λ (j : ℕ). get_or (set flags k true) j false) (sym e) ∙ get_or-set_same flags k true false (omega arith)
    go false q = get_or-set_other flags k n true false (λ e. eqb-false k n q (sym e))

pub raised : (f g : ℕ → Bool) (flags flags' : List Bool) (k : ℕ) → Flags f flags → flags' ≡ set flags k true
    → ((n : ℕ) → (eqb k n || f n) ≡ g n) → Flags g flags'
raised f g flags flags' k up e same = subst (Flags g) (sym e) (record {
  size = length-set flags k true ∙ up.size;
  flag = λ n h. flag_raised flags k n (omega (arith, up.size)) ∙ ap (λ (b : Bool). eqb k n || b) (up.flag n h) ∙ same n;
})
