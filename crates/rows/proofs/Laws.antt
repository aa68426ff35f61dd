-- Turns and ends of the loops that look for one element, and the start of the loop over lines. Assumes nothing.
use mathlib.Core.Path.{◌≡◌, refl, sym, ap, ◌∙◌}
use mathlib.Core.Bool.{Bool, true, false, not, ◌||◌, cond}
use mathlib.Core.List.{List, [], ◌∷◌}
use Prim.Native.Nat.{ℕ, suc, ◌+◌, ◌<◌, ◌≤◌}
use native.Mathlib.Numerals.{add-one}
use lib.ListN.{length, get_or, drop, drop_of_length-le}
use lib.Seq.{drop-cons}
use Rattle.target.specs.declared.NameNumber.{NameNumber}
use Rattle.model.specs.Basic.{any, select, is_empty}
use Rattle.model.specs.Store.{Store, is_of, lines_of}
use Rattle.model.specs.Due.{has_lines}

-- ---- some element passes a test: what is left decides

module _ {A : Type 0} (p : A → Bool) (xs : List A) (d : A) (i n : ℕ) (z : Bool) (h : any p (drop i xs) ≡ z) (e : n ≡ length xs) where
  at : i < n → drop i xs ≡ get_or xs i d ∷ drop (suc i) xs
  at l = let b : i < length xs = rw e at l in drop-cons xs i d b

  pub any_here : (x : A) (r : Bool) → i < n → x ≡ get_or xs i d → r ≡ p x → r ≡ true → true ≡ z
  any_here x r l ex er t =
      let f : p (get_or xs i d) ≡ true = ap p (sym ex) ∙ sym er ∙ t in
      rw (at l, f) at h

  pub any_more : (x : A) (r : Bool) → i < n → x ≡ get_or xs i d → r ≡ p x → r ≡ false → any p (drop (i + 1) xs) ≡ z
  any_more x r l ex er t =
      let f : p (get_or xs i d) ≡ false = ap p (sym ex) ∙ sym er ∙ t in
      rw add-one (rw (at l, f) at h)

pub any_end : {A : Type 0} (p : A → Bool) (xs : List A) (i n : ℕ) (z : Bool) → any p (drop i xs) ≡ z → n ≡ length xs → n ≤ i → false ≡ z
any_end p xs i n z h e l =
    let b : length xs ≤ i = rw e at l in
    rw (drop_of_length-le xs b) at h

-- ---- a name has lines if some line is its own

any_select : {A : Type 0} (p : A → Bool) (xs : List A) → any p xs ≡ not (is_empty (select p xs))
any_select p [] = refl
any_select p (x ∷ xs) = go (p x) (any_select p xs)
  where
    go : (b : Bool) → any p xs ≡ not (is_empty (select p xs)) → (b || any p xs) ≡ not (is_empty (cond b (x ∷ select p xs) (select p xs)))
    go true k = refl
    go false k = k

pub lines_any : (s : Store) (n : NameNumber) → any (is_of n) s.lines ≡ has_lines s n
unfolding lines_of
lines_any s n = any_select (is_of n) s.lines
