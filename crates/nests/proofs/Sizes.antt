-- A name beneath another has a slash where the other ends: where no slash stands at such a place, the name is beneath none.
-- Assumes nothing.
use mathlib.Core.Path.{◌≡◌, refl, sym, ◌∙◌}
use mathlib.Core.Bool.{Bool, true, false, ◌&&◌, false≢true}
use mathlib.Core.List.{List}
use Prim.Native.Nat.{ℕ, ◌<◌, ◌≤◌}
use native.Mathlib.Omega.{arith}
use native.Mathlib.Decide.{dec_lt}
use lib.ListN.{length, get_or}
use lib.Dec.{eqb}
use borrow.Author.Tests.{eqb-true, eqb-false, eq-eqb}
use Rattle.word.specs.Flags.{Flags}
use Rattle.word.proofs.Tests.{true_both, some_false, false_some, some_true}
use Rattle.model.specs.Names.{beneath}
use Rattle.model.specs.Store.{Store, count, entry_at}
use Rattle.model.specs.Beneath.{lies}
use Rattle.model.proofs.Beneath.{and_not}
use Rattle.names.proofs.Beneath.{beneath_short, beneath_not}
use Rattle.nests.specs.Under.{is_up, some_has, size_for, slashed, slash_at, under_one, under}

module _ (x y : List ℕ) (e : beneath x y ≡ true) where
  ends_in_lem : length y < length x
  ends_in_lem = go (dec_lt (length y) (length x))
    where
      go : Dec (length y < length x) → length y < length x
      go (yes h) = h
      go (no h) = absurd (false≢true (beneath_short x y (omega arith) ∙ e))

  ends_at_slash : get_or x (length y) 0 ≡ 47
  ends_at_slash = go (eqb (get_or x (length y) 0) 47) refl
    where
      go : (t : Bool) → eqb (get_or x (length y) 0) 47 ≡ t → get_or x (length y) 0 ≡ 47
      go true q = eqb-true _ 47 q
      go false q = absurd (false≢true (beneath_not x y ends_in_lem (eqb-false (get_or x (length y) 0) 47 q) ∙ e))

pub unslashed : (s : Store) (upper sizes : List Bool) (n : ℕ) → length (entry_at s n).name ≤ 64 → Flags (size_for s upper) sizes
    → slash_at (entry_at s n).name sizes ≡ false → under s upper n ≡ false
unfolding under under_one slash_at slashed size_for some_has
unslashed s upper sizes n short f h =
    false_some (count s) (under_one s upper n) (λ m l. and_not (is_up upper m) (lies s n m) (λ u. go m l u (lies s n m) refl))
  where
    name : List ℕ
    name = (entry_at s n).name

    size : ℕ → ℕ
    size m = length (entry_at s m).name

    go : (m : ℕ) → m < count s → is_up upper m ≡ true → (t : Bool) → lies s n m ≡ t → t ≡ false
    go m l u false e = refl
    go m l u true e =
        let inside : size m < length name = ends_in_lem name (entry_at s m).name e in
        let slash : eqb (get_or name (size m) 0) 47 ≡ true = eq-eqb _ 47 (ends_at_slash name (entry_at s m).name e) in
        let flagged : is_up sizes (size m) ≡ true =
        f.flag (size m) (omega arith)
        ∙ some_true (count s) (λ k. is_up upper k && eqb (size k) (size m)) m l (true_both u (eq-eqb (size m) (size m) refl)) in
        absurd (false≢true (sym (some_false (length name) (slashed name sizes) h (size m) inside) ∙ true_both slash flagged))
