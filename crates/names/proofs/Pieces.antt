-- Pieces, what stands between bytes of one value: the first one ends at the first such byte, and the others stand after that. Assumes nothing.
use mathlib.Core.Path.{◌≡◌, refl, sym, ap, subst, ◌∙◌}
use mathlib.Core.Bool.{Bool, true, false, cond}
use mathlib.Core.List.{List, [], ◌∷◌}
use Prim.Native.Nat.{ℕ, zero, suc, ◌+◌, ◌-◌, ◌<◌, ◌≤◌}
use native.Mathlib.Numerals.{add-one}
use native.Mathlib.Omega.{arith}
use lib.ListN.{length, take, drop, length-drop}
use lib.Seq.{drop-cons, length-take-le}
use lib.Dec.{eqb}
use Rattle.model.specs.Names.{grow, pieces}
use Rattle.names.specs.Parts.{up_to}
use Rattle.names.proofs.Bytes.{to_end}

-- ---- the first byte c

pub byte_within : (c : ℕ) (l : List ℕ) → up_to c l ≤ length l
byte_within c [] = omega arith
byte_within c (b ∷ bs) = go (eqb b c) (byte_within c bs)
  where
    go : (t : Bool) → up_to c bs ≤ length bs → cond t zero (suc (up_to c bs)) ≤ suc (length bs)
    go true h = omega arith
    go false h = omega arith

-- ---- the pieces

-- those of what begins with the byte, without the empty one before it
abbrev pub after : ℕ → List ℕ → List (List ℕ)
after c [] = []
after c (b ∷ bs) = pieces c bs

pub first_then : (c : ℕ) (l : List ℕ) → pieces c l ≡ take (up_to c l) l ∷ after c (drop (up_to c l) l)
first_then c [] = refl
first_then c (b ∷ bs) = go (eqb b c) (first_then c bs)
  where
    go :
        (t : Bool)
        → pieces c bs ≡ take (up_to c bs) bs ∷ after c (drop (up_to c bs) bs)
        → cond t ([] ∷ pieces c bs) (grow b (pieces c bs))
        ≡ take (cond t zero (suc (up_to c bs))) (b ∷ bs) ∷ after c (drop (cond t zero (suc (up_to c bs))) (b ∷ bs))
    go true h = refl
    go false h = ap (grow b) h

-- a piece is lent as a part
pub parts_first : (c : ℕ) (l : List ℕ) (k : ℕ) → k ≡ up_to c l → k ≡ length (take k l)
parts_first c l k e = sym (length-take-le k l (omega (arith, byte_within c l)))

module _ (c : ℕ) (l : List ℕ) (k : ℕ) (e : k ≡ up_to c l) (d : k ≡ length l → ⊥) where
  pub parts_left : k + 1 ≤ length l
  parts_left = omega (arith, byte_within c l)

  pub parts_less : length (take (length l - (k + 1)) (drop (k + 1) l)) < length l
  parts_less = rw to_end (omega (arith, length-drop (k + 1) l, parts_left))

  -- and what stands behind the byte are the other pieces
  pub parts_then : pieces c l ≡ take k l ∷ pieces c (drop (k + 1) l)
  parts_then =
      let b : k < length l = omega (arith, parts_left) in
      let f : pieces c l ≡ take k l ∷ after c (drop k l) = subst (λ (n : ℕ). pieces c l ≡ take n l ∷ after c (drop n l)) (sym e) (first_then c l) in
      rw add-one (f ∙ ap (λ (m : List ℕ). take k l ∷ after c m) (drop-cons l k 0 b))
