-- The first bytes of a list and what stands behind them, put together and taken apart; and tests that passed. Assumes nothing.
use Rattle.std.specs.Prelude.{Some, None, Result, Ok, Err}
use mathlib.Core.Path.{◌≡◌, refl, sym, ap, subst, ◌∙◌}
use mathlib.Core.Bool.{Bool, true, false, cond}
use mathlib.Core.List.{List, ◌++◌}
use Prim.Native.Nat.{ℕ, ◌-◌, ◌≤◌, ◌<◌}
use native.Mathlib.Omega.{arith}
use lib.ListN.{length, take, drop, length-append, length-drop, take-append-drop}
use lib.Seq.{take_at, drop_at, take_all, length-take-le}
use lib.Dec.{leb}
use borrow.Author.Tests.{leb-true, le-leb, lt-leb}
use Rattle.word.specs.Be.{Bytes, cut, val, be}
use Rattle.word.proofs.Be.{be_val, bytes_take, bytes_drop}
use Rattle.model.specs.declared.Refusal.{Refusal}
use Rattle.model.proofs.Binds.{some_is, cond_some, refuse_pass}
use Rattle.settings.specs.Format.{Split, split}

-- the arm that refuses was not taken
pub passed : {A : Type 0} (t : Bool) (m : Result A Refusal) (x : Refusal) (a : A)
    → cond t m (Err x) ≡ Ok a → (t ≡ true) × (m ≡ Ok a)
passed true m x a e = (refl, e)
passed false m x a e = absurd (refuse_pass e)

-- all that stands behind the first b: what `&s[b..]` lends
pub to_end : (b : ℕ) (r : List ℕ) → cut b (length r - b) r ≡ drop b r
to_end b r = let e : length (drop b r) ≡ length r - b = length-drop b r in take_all (length r - b) (drop b r) (omega arith)

-- the first k bytes, where there are as many
pub split_at : (k : ℕ) (r : List ℕ) → k ≤ length r → split k r ≡ Some (record { front = take k r; behind = drop k r })
unfolding split
split_at k r h = rw (le-leb k (length r) h)

pub split_past : (k : ℕ) (r : List ℕ) → length r < k → split k r ≡ None
unfolding split
split_past k r h = rw (lt-leb k (length r) h)

pub split_some : (k : ℕ) (r : List ℕ) (p : Split) → split k r ≡ Some p → (k ≤ length r) × (p.front ≡ take k r) × (p.behind ≡ drop k r)
unfolding split
split_some k r p e =
    let h = cond_some (leb k (length r)) (Some (record { front = take k r; behind = drop k r })) p e in
    let q = some_is h.1 in
    (leb-true k (length r) h.0, ap (λ (p : Split). p.front) (sym q), ap (λ (p : Split). p.behind) (sym q))

-- the pieces of a list are the two that it was made of
pub split_in : (k : ℕ) (xs ys : List ℕ) → length xs ≡ k → split k (xs ++ ys) ≡ Some (record { front = xs; behind = ys })
unfolding split
split_in k xs ys e =
    let h : k ≤ length (xs ++ ys) = rw length-append (omega arith) in
    rw (le-leb k (length (xs ++ ys)) h, take_at xs ys k e, drop_at xs ys k e)

-- k bytes are written of the number that is read of them
pub number_of : (k : ℕ) (xs : List ℕ) → Bytes xs → length xs ≡ k → be k (val xs) ≡ xs
number_of k xs b e = ap (λ (n : ℕ). be n (val xs)) (sym e) ∙ be_val b

-- two pieces, of bytes, the first of k
pub record Pieces (k : ℕ) (r : List ℕ) (p : Split) : Type 0 where
  pub whole : p.front ++ p.behind ≡ r
  pub size : length p.front ≡ k
  pub first : Bytes p.front
  pub rest : Bytes p.behind
  pub number : be k (val p.front) ≡ p.front

-- the pieces that are read make the list
pub split_back : (k : ℕ) (r : List ℕ) (p : Split) → Bytes r → split k r ≡ Some p → Pieces k r p
unfolding split
split_back k r p b h = subst (Pieces k r) (some_is i.1) pieces
  where
    i : (leb k (length r) ≡ true) × (Some (record { front = take k r; behind = drop k r }) ≡ Some p)
    i = cond_some (leb k (length r)) _ p h

    size : length (take k r) ≡ k
    size = length-take-le k r (leb-true k (length r) i.0)

    pieces : Pieces k r (record { front = take k r; behind = drop k r })
    pieces = record {
      whole = take-append-drop k r;
      size = size;
      first = bytes_take k b;
      rest = bytes_drop k b;
      number = number_of k (take k r) (bytes_take k b) size;
    }
