-- Starts, turns and ends of the loops over rows and names; crate rows has those of the loops that look for one row. Assumes nothing.
use mathlib.Core.Path.{◌≡◌, refl, sym, ap, ◌∙◌}
use mathlib.Core.Bool.{Bool, true, false, ◌&&◌, not}
use mathlib.Core.List.{List}
use Prim.Native.Nat.{ℕ, suc, ◌+◌, ◌<◌, ◌≤◌}
use native.Mathlib.Numerals.{add-one}
use native.Mathlib.Omega.{arith}
use lib.ListN.{length, get_or, drop, drop_of_length-le, length-append}
use lib.Seq.{drop-cons}
use lib.Dec.{eqb}
use borrow.Author.Tests.{not-true, not-false}
use Rattle.word.specs.Flags.{Flags}
use Rattle.word.proofs.Tests.{below_more, below_false}
use Rattle.target.specs.declared.NameNumber.{NameNumber}
use Rattle.target.proofs.Places.{at_place}
use Rattle.transaction.specs.declared.PackedRefs.{PackedRefs}
use Rattle.transaction.specs.declared.Edit.{Edit}
use Rattle.model.specs.Basic.{any, below, collect}
use Rattle.model.specs.Store.{Store, rows_in, mode_in}
use Rattle.model.specs.Rows.{name_in, keeps_lock}
use Rattle.model.specs.Fine.{kept_for}
use Rattle.rows.proofs.Gather.{Gathering, gather_end}

-- ---- the locks that rows keep, gathered

abbrev pub of_row : Edit → ℕ
of_row r = (name_in r).0

module _ (s : Store) (mode : PackedRefs) (flags : List Bool) (i m : ℕ) (g : Gathering of_row (keeps_lock s mode) (rows_in s.prepared) i flags) (e : m ≡ length (rows_in s.prepared)) where
  pub rows_end : m ≤ i → mode ≡ mode_in s.prepared → Flags (kept_for s) flags
  unfolding kept_for
  rows_end l em =
      gather_end of_row (keeps_lock s mode) (rows_in s.prepared) (kept_for s) flags i m g e l
      (λ n. ap (λ (mode : PackedRefs). any (λ (r : Edit). eqb (name_in r).0 n && keeps_lock s mode r) (rows_in s.prepared)) em)

-- ---- loops over places, whose turns ask of the name at the place

pub placed : (k : NameNumber) (i n m : ℕ) → k ≡ record { 0 = i } → i < n → n ≡ m → k.0 < m
placed k i n m ek l e = let p : k.0 ≡ i = at_place k i ek in omega arith

-- every number below a bound passes
pub none_below : (p : ℕ → Bool) → below 0 p ≡ true
unfolding below
none_below p = refl

module _ (p : ℕ → Bool) (n : ℕ) (k : NameNumber) (r : Bool) (ek : k ≡ record { 0 = n }) (er : r ≡ p k.0) where
  pub all_more : below n p ≡ true → not r ≡ false → below (n + 1) p ≡ true
  all_more h t = below_more n p h (ap p (sym (at_place k n ek)) ∙ sym er ∙ not-false r t)

  pub all_stop : (m j : ℕ) → n < m → m ≡ j → not r ≡ true → false ≡ below j p
  all_stop m j l e t = sym (below_false j p n (rw e at l) (ap p (sym (at_place k n ek)) ∙ sym er ∙ not-true r t))

-- ---- a sum over elements: so far, and what is left

pub sum_start : (k : ℕ) → 0 + k ≡ k
sum_start k = omega arith

module _ {A B : Type 0} (f : A → List B) (xs : List A) (i n sum k : ℕ) (h : sum + length (collect f (drop i xs)) ≡ k) (e : n ≡ length xs) where
  pub sum_more : (d x : A) (r : ℕ) → i < n → x ≡ get_or xs i d → r ≡ length (f x) → sum + r + length (collect f (drop (i + 1) xs)) ≡ k
  sum_more d x r l ex er =
      let b : i < length xs = rw e at l in
      let g : length (f (get_or xs i d)) ≡ r = ap (λ (a : A). length (f a)) (sym ex) ∙ sym er in
      let q : sum + (r + length (collect f (drop (suc i) xs))) ≡ k = rw (drop-cons xs i d b, length-append, g) at h in
      rw add-one (omega arith)

  pub sum_end : n ≤ i → sum ≡ k
  sum_end l =
      let b : length xs ≤ i = rw e at l in
      let q : sum + 0 ≡ k = rw (drop_of_length-le xs b) at h in
      omega arith
