-- Flags of places that pass a test, gathered in one pass, each by its number. Assumes nothing.
use mathlib.Core.Path.{◌≡◌, sym, ap, ◌∙◌, subst}
use mathlib.Core.Bool.{Bool, true, false, ◌&&◌, ◌||◌, cond, or_comm, or-false}
use mathlib.Core.List.{List}
use Prim.Native.Nat.{ℕ, ◌+◌, ◌<◌, ◌≤◌}
use native.Mathlib.Omega.{arith}
use lib.ListN.{length, get_or, set, length-set}
use lib.Dec.{eqb}
use Rattle.word.specs.Flags.{Flags, nowhere}
use Rattle.word.proofs.Flags.{flag_raised}
use Rattle.word.proofs.Tests.{false_some, some_more}
use Rattle.nests.specs.Under.{some_has}

pub record Raising (key : ℕ → ℕ) (ok : ℕ → Bool) (n i : ℕ) (flags : List Bool) : Type 0 where
  pub upto : i ≤ n
  pub size : length flags ≡ 256
  pub flag : (k : ℕ) → k < 256 → get_or flags k false ≡ some_has key ok i k

module _ (key : ℕ → ℕ) (ok : ℕ → Bool) (n : ℕ) where
  pub raising_start : (flags : List Bool) → Flags nowhere flags → Raising key ok n 0 flags
  unfolding some_has
  raising_start flags f = record {
    upto = omega arith;
    size = f.size;
    flag = λ k h. f.flag k h ∙ sym (false_some 0 (λ i. ok i && eqb (key i) k) (λ i l. absurd (omega arith)));
  }

  pub raising_more : (i : ℕ) (flags flags' : List Bool) → Raising key ok n i flags → i < n → flags' ≡ cond (ok i) (set flags (key i) true) flags
      → Raising key ok n (i + 1) flags'
  unfolding some_has
  raising_more i flags flags' r l e = subst (Raising key ok n (i + 1)) (sym e) (record {
    upto = omega arith;
    size = size (ok i);
    flag = λ k h. up (ok i) k h ∙ ap (λ (b : Bool). b || (ok i && eqb (key i) k)) (r.flag k h) ∙ sym (some_more i (λ j. ok j && eqb (key j) k));
  })
    where
      size : (b : Bool) → length (cond b (set flags (key i) true) flags) ≡ 256
      size true = length-set flags (key i) true ∙ r.size
      size false = r.size

      up : (b : Bool) (k : ℕ) → k < 256 → get_or (cond b (set flags (key i) true) flags) k false ≡ (get_or flags k false || (b && eqb (key i) k))
      up true k h = flag_raised flags (key i) k (omega (arith, r.size)) ∙ or_comm (eqb (key i) k) (get_or flags k false)
      up false k h = sym (or-false (get_or flags k false))

  pub raising_end : (i : ℕ) (flags : List Bool) → Raising key ok n i flags → n ≤ i → Flags (some_has key ok n) flags
  raising_end i flags r l =
      let e : i ≡ n = omega (arith, r.upto) in
      record { size = r.size; flag = λ k h. r.flag k h ∙ ap (λ (j : ℕ). some_has key ok j k) e }
