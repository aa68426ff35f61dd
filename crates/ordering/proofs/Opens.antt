-- Numbers that move up by one, from the last on. Start, turn and end of the loop. Assumes nothing.
use mathlib.Core.Path.{◌≡◌, sym, ap, ◌∙◌}
use mathlib.Core.List.{List, [], ◌∷◌, ◌++◌, append_assoc}
use Prim.Native.Nat.{ℕ, zero, suc, ◌+◌, ◌-◌, ◌≤◌, ◌<◌}
use native.Mathlib.Numerals.{add-one}
use native.Mathlib.Omega.{arith}
use lib.ListN.{length, get_or, take, drop, set, take-append-drop, drop_of_length-le, get_or-append}
use lib.Seq.{length-take-le, take-suc, drop-cons, get_or-take, set_at}
use Rattle.ordering.specs.Order.{opened, Opened}

module _ (o : List ℕ) (held : ℕ) (h : held < length o) where
  pub open_start : Opened o held held o
  open_start =
      let e : length (take held o) ≤ held = omega (arith, length-take-le held o (omega arith)) in
      record { moved = sym (rw (drop_of_length-le (take held o) e) (take-append-drop (held + 1) o)) }

  -- with the number at i taken out of what stands in front
  split : (i : ℕ) → i ≤ held → opened o i held ≡ take i o ++ (get_or o i 0 ∷ (drop i (take held o) ++ drop (held + 1) o))
  split i l =
      rw (add-one i)
      (rw (take-suc o i 0 (omega arith)) (append_assoc (take i o) (get_or o i 0 ∷ []) (drop i (take held o) ++ drop (held + 1) o)))

  -- what is put at i
  pub put_at : (i : ℕ) (xs : List ℕ) (a : ℕ) → i ≤ held → Opened o i held xs
      → set xs i a ≡ take i o ++ (a ∷ (drop i (take held o) ++ drop (held + 1) o))
  put_at i xs a l e =
      ap (λ (ys : List ℕ). set ys i a) (e.moved ∙ split i l)
      ∙ set_at (take i o) (get_or o i 0) (drop i (take held o) ++ drop (held + 1) o) a i (length-take-le i o (omega arith))

  -- the number before i is put at i: from there on all stand one further
  pub open_more : (i : ℕ) (xs : List ℕ) → 0 < i → i ≤ held → Opened o i held xs → Opened o (i - 1) held (set xs i (get_or xs (i - 1) 0))
  open_more zero xs z l e = absurd (omega arith)
  open_more (suc j) xs z l e =
      let k : suc j - 1 ≡ j = omega arith in
      let b : j < length (take (suc j) o) = omega (arith, length-take-le (suc j) o (omega arith)) in
      let d : j < length (take held o) = omega (arith, length-take-le held o (omega arith)) in
      let x : get_or xs j 0 ≡ get_or o j 0 =
      ap (λ (ys : List ℕ). get_or ys j 0) (e.moved ∙ split (suc j) l)
      ∙ get_or-append (take (suc j) o) _ 0 j b
      ∙ get_or-take (suc j) o j 0 (omega arith) in
      let y : get_or o j 0 ∷ drop (suc j) (take held o) ≡ drop j (take held o) =
      sym (drop-cons (take held o) j 0 d ∙ ap (λ (a : ℕ). a ∷ drop (suc j) (take held o)) (get_or-take held o j 0 (omega arith))) in
      record {
        moved =
            rw k
            (put_at (suc j) xs (get_or xs j 0) l e
            ∙ ap (λ (a : ℕ). take (suc j) o ++ (a ∷ (drop (suc j) (take held o) ++ drop (held + 1) o))) x
            ∙ ap (λ (ys : List ℕ). take (suc j) o ++ (ys ++ drop (held + 1) o)) y
            ∙ (rw (add-one j)));
      }

pub open_end : (o : List ℕ) (held at i : ℕ) (xs : List ℕ) → at ≤ i → i ≤ at → Opened o i held xs → Opened o at held xs
open_end o held at i xs l k e = let q : i ≡ at = omega arith in rw q at e
