-- Where a ref belongs among refs that rise: behind those that it does not stand before. Turns and end of the loop that halves.
-- Assumes nothing.
use mathlib.Core.Path.{◌≡◌, refl, sym, ap, ap₂, ◌∙◌}
use mathlib.Core.Bool.{Bool, true, false, true≢false}
use mathlib.Core.List.{List, [], ◌∷◌, ◌++◌}
use Prim.Native.Nat.{ℕ, zero, suc, ◌+◌, ◌-◌, ◌/◌, ◌≤◌, ◌<◌}
use native.Mathlib.Omega.{arith}
use lib.ListN.{length, get_or, take, drop, length-map, get_or-map}
use lib.Seq.{length-take-le, get_or-take}
use lib.Dec.{eqb}
use borrow.Author.Tests.{eqb-true, eqb-false}
use Rattle.word.proofs.Tests.{both_true}
use Rattle.target.specs.declared.NameNumber.{NameNumber}
use Rattle.model.specs.Basic.{all}
use Rattle.model.specs.Names.{before}
use Rattle.model.specs.Store.{Store, entry_at, entry_of}
use Rattle.model.specs.PackedText.{Ref, insert}
use Rattle.model.specs.Texts.{rises}
use Rattle.model.proofs.ByteOrder.{before_trans}
use Rattle.ordering.specs.Order.{ref_at, first_at, Places}

-- ---- refs that rise

all_at : {A : Type 0} (p : A → Bool) (d : A) (xs : List A) → all p xs ≡ true → (i : ℕ) → i < length xs → p (get_or xs i d) ≡ true
all_at p d [] e i h = absurd (omega arith)
all_at p d (x ∷ xs) e zero h = (both_true (p x) (all p xs) e).0
all_at p d (x ∷ xs) e (suc i) h = all_at p d xs (both_true (p x) (all p xs) e).1 i (omega arith)

-- of two the earlier stands before the later
rises_at : (xs : List Ref) (d : Ref) → rises xs ≡ true → (i j : ℕ) → i < j → j < length xs
    → before (get_or xs i d).name (get_or xs j d).name ≡ true
rises_at [] d e i j l h = absurd (omega arith)
rises_at (x ∷ xs) d e i zero l h = absurd (omega arith)
rises_at (x ∷ xs) d e zero (suc j) l h =
    all_at (λ (y : Ref). before x.name y.name) d xs
    (both_true (all (λ (y : Ref). before x.name y.name) xs) (rises xs) e).0 j (omega arith)
rises_at (x ∷ xs) d e (suc i) (suc j) l h =
    rises_at xs d (both_true (all (λ (y : Ref). before x.name y.name) xs) (rises xs) e).1 i j (omega arith) (omega arith)

-- a ref that stands before none of the first p, but before the next, if there is one, is inserted there
insert_at : (r : Ref) (xs : List Ref) (d : Ref) (p : ℕ) → p ≤ length xs
    → ((i : ℕ) → i < p → before r.name (get_or xs i d).name ≡ false)
    → (p < length xs → before r.name (get_or xs p d).name ≡ true)
    → insert r xs ≡ take p xs ++ (r ∷ drop p xs)
insert_at r [] d zero l f t = refl
insert_at r [] d (suc p) l f t = absurd (omega arith)
insert_at r (x ∷ xs) d zero l f t = rw (t (omega arith))
insert_at r (x ∷ xs) d (suc p) l f t =
    rw (f 0 (omega arith))
    (ap (λ (ys : List Ref). x ∷ ys) (insert_at r xs d p (omega arith) (λ i h. f (suc i) (omega arith)) (λ h. t (omega arith))))

-- ---- the first numbers, by place

module _ (s : Store) (numbers : List ℕ) (held : ℕ) (h : held ≤ length numbers) where
  pub first_length : length (first_at s held numbers) ≡ held
  unfolding first_at
  first_length = length-map (take held numbers) (ref_at s) ∙ length-take-le held numbers h

  pub first_at_lem : (i : ℕ) → i < held → get_or (first_at s held numbers) i (ref_at s 0) ≡ ref_at s (get_or numbers i 0)
  unfolding first_at
  first_at_lem i l = get_or-map (ref_at s) (take held numbers) i 0 ∙ ap (ref_at s) (get_or-take held numbers i 0 l)

-- name n stands before the name of the number at place i
abbrev pub asks : Store → List ℕ → ℕ → ℕ → Bool
asks s numbers n i = before (entry_at s n).name (entry_at s (get_or numbers i 0)).name

-- what is known between two turns: the place lies from `low` to `high`
pub record Narrowed (s : Store) (numbers : List ℕ) (held n low high : ℕ) : Type 0 where
  pub near : low ≤ high
  pub inside : high ≤ held
  pub behind : (i : ℕ) → i < low → asks s numbers n i ≡ false
  pub ahead : (i : ℕ) → high ≤ i → i < held → asks s numbers n i ≡ true

pub narrow_start : (s : Store) (numbers : List ℕ) (held n : ℕ) → Narrowed s numbers held n 0 held
narrow_start s numbers held n = record {
  near = omega arith;
  inside = omega arith;
  behind = λ i l. absurd (omega arith);
  ahead = λ i l h. absurd (omega arith);
}

module _ (s : Store) (numbers : List ℕ) (held : ℕ) (h : held ≤ length numbers) (up : rises (first_at s held numbers) ≡ true) where
  -- of two numbers the earlier one's name stands before the later one's
  rising : (i j : ℕ) → i < j → j < held → before (entry_at s (get_or numbers i 0)).name (entry_at s (get_or numbers j 0)).name ≡ true
  rising i j l k =
      let z : length (first_at s held numbers) ≡ held = first_length s numbers held h in
      sym (ap₂ (λ (a b : Ref). before a.name b.name) (first_at_lem s numbers held h i (omega arith)) (first_at_lem s numbers held h j k))
      ∙ rises_at (first_at s held numbers) (ref_at s 0) up i j l (omega arith)

  module _ (n : ℕ) where
    -- who stands before one stands before all that follow it
    then_ahead : (m : ℕ) → asks s numbers n m ≡ true → (i : ℕ) → m ≤ i → i < held → asks s numbers n i ≡ true
    then_ahead m e i l k = go (eqb m i) refl
      where
        go : (t : Bool) → eqb m i ≡ t → asks s numbers n i ≡ true
        go true q = ap (asks s numbers n) (sym (eqb-true m i q)) ∙ e
        go false q =
            let d : m ≡ i → ⊥ = eqb-false m i q in
            before_trans (entry_at s n).name (entry_at s (get_or numbers m 0)).name (entry_at s (get_or numbers i 0)).name e (rising m i (omega arith) k)

    -- who does not stand before one stands before none of those in front of it
    then_behind : (m : ℕ) → m < held → asks s numbers n m ≡ false → (i : ℕ) → i ≤ m → asks s numbers n i ≡ false
    then_behind m k e i l = go (asks s numbers n i) refl
      where
        go : (t : Bool) → asks s numbers n i ≡ t → asks s numbers n i ≡ false
        go true q = absurd (true≢false (sym (then_ahead i q m l k) ∙ e))
        go false q = q

-- ---- a turn: the place in the middle is asked, and what is known of it is known of one side

module _ (s : Store) (numbers : List ℕ) (held : ℕ) (h : held ≤ length numbers) (up : rises (first_at s held numbers) ≡ true) where
  module _ (low high : ℕ) (l : low < high) (name other : NameNumber) (a b : List ℕ) (r : Bool) (k : Narrowed s numbers held name.0 low high) where
    module _ (eo : other ≡ record { 0 = get_or numbers (low + (high - low) / 2) 0 }) (ea : a ≡ (entry_of s name).name)
        (eb : b ≡ (entry_of s other).name) (er : r ≡ before a b) where
      answer : asks s numbers name.0 (low + (high - low) / 2) ≡ r
      answer =
          sym (er ∙ ap₂ before ea (eb ∙ ap (λ (m : NameNumber). (entry_of s m).name) eo))

      pub narrow_down : r ≡ true → Narrowed s numbers held name.0 low (low + (high - low) / 2)
      narrow_down t = record {
        near = omega arith;
        inside = omega arith;
        behind = k.behind;
        ahead = then_ahead s numbers held h up name.0 (low + (high - low) / 2) (answer ∙ t);
      }

      pub narrow_up : r ≡ false → Narrowed s numbers held name.0 (low + (high - low) / 2 + 1) high
      narrow_up t = record {
        near = omega arith;
        inside = omega arith;
        behind = λ i q. then_behind s numbers held h up name.0 (low + (high - low) / 2) (omega arith) (answer ∙ t) i (omega arith);
        ahead = k.ahead;
      }

  -- no place is left but one
  pub narrow_end : (n low high : ℕ) → high ≤ low → Narrowed s numbers held n low high → Places s numbers held n low
  narrow_end n low high l k =
      let z : length (first_at s held numbers) ≡ held = first_length s numbers held h in
      let asked : (i : ℕ) → i < held → before (entry_at s n).name (get_or (first_at s held numbers) i (ref_at s 0)).name ≡ asks s numbers n i =
      λ i q. ap (λ (r : Ref). before (entry_at s n).name r.name) (first_at_lem s numbers held h i q) in
      record {
        inside = omega arith;
        place =
            insert_at (ref_at s n) (first_at s held numbers) (ref_at s 0) low (omega arith)
            (λ i q. asked i (omega arith) ∙ k.behind i q)
            (λ q. asked low (omega arith) ∙ k.ahead low l (omega arith));
      }
