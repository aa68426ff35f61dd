-- What the proofs of the rules' tests cite, over variables: each test of the code, in its order, and the turns of its loops.
-- Assumes nothing.
use Rattle.std.specs.Prelude.{Some, None}
use mathlib.Core.Path.{◌≡◌, refl, sym, ap, ap₂, ◌∙◌}
use mathlib.Core.Bool.{Bool, true, false, not, ◌&&◌, and-true, and-false}
use mathlib.Core.List.{List, [], ◌∷◌}
use Prim.Native.Nat.{ℕ, zero, suc, ◌+◌, ◌<◌, ◌≤◌}
use native.Mathlib.Omega.{arith}
use lib.ListN.{length, get_or}
use lib.Dec.{leb}
use borrow.Author.Tests.{le-leb, not-true, not-false}
use Rattle.word.proofs.Tests.{both_true, every_at, below_false, below_true, below_more}
use Rattle.transaction.specs.declared.Edit.{Edit}
use Rattle.model.specs.declared.Line.{Line}
use Rattle.model.specs.Basic.{every, below}
use Rattle.model.specs.Store.{Store, count, entry_at, no_line, rows_in}
use Rattle.model.specs.Rows.{row_at, ancestors}
use Rattle.model.specs.Fine.{row_tests, fine_entry, fine_line, fine_row, apart_names, apart_rows}
use Rattle.model.specs.Fine.{Upward, fine_names, fine_lines, fine_rows}
use Rattle.model.proofs.Climbs.{ancestors_none, ancestors_up, falls}
use Rattle.region.specs.Region.{view, Laid}
use Rattle.rules.specs.Tests.{name_test, line_test, row_test}

-- ---- the loops: every number below i passes so far

pub loop_none : (p : ℕ → Bool) → below 0 p ≡ true
unfolding below
loop_none p = refl

pub loop_more : (i : ℕ) (p : ℕ → Bool) (b : Bool) → below i p ≡ true → b ≡ p i → not b ≡ false → below (i + 1) p ≡ true
loop_more i p b h e t = below_more i p h (sym e ∙ not-false b t)

pub loop_stop : (i m n : ℕ) (p : ℕ → Bool) (b : Bool) → i < m → m ≡ n → b ≡ p i → not b ≡ true → false ≡ below n p
loop_stop i m n p b h q e t = sym (below_false n p i (rw q at h) (sym e ∙ not-true b t))

pub loop_end : (i m n : ℕ) (p : ℕ → Bool) → below i p ≡ true → i ≤ m → m ≤ i → m ≡ n → true ≡ below n p
loop_end i m n p h a b q = let e : i ≡ n = omega arith in sym (rw e at h)

-- ---- lines

line_is : (s : Store) (i k : ℕ) (l : Line) (b : Bool) → k ≡ count s → l ≡ get_or s.lines i no_line → b ≡ fine_line k l → b ≡ line_test s i
unfolding line_test
line_is s i k l b q e f = f ∙ ap₂ fine_line q e

-- ---- rows

-- the climb: a parent's place is smaller, so that from it on every parent is earlier too
module _ (rows : List Edit) (i : ℕ) (row : Edit) (q : row ≡ row_at rows i) where
  pub top_row : row.parent_index ≡ None → (0 ≡ length (ancestors rows i)) × (0 ≤ i)
  top_row e = (sym (ap length (ancestors_none rows i (ap (λ (r : Edit). r.parent_index) (sym q) ∙ e))), omega arith)

  module _ (w : Upward (i + 1) rows) (p : ℕ) (e : row.parent_index ≡ Some p) where
    parent_of : (row_at rows i).parent_index ≡ Some p
    parent_of = ap (λ (r : Edit). r.parent_index) (sym q) ∙ e

    parent_before : p < i
    parent_before = falls rows i (i + 1) w (omega arith) p parent_of

    pub one_up : (m : ℕ) → (m ≡ length (ancestors rows p)) × (m ≤ p) → (1 + m ≡ length (ancestors rows i)) × (1 + m ≤ i)
    one_up m g =
        let h : p < i = parent_before in
        let l : m ≤ p = g.1 in
        let z : 1 + m ≡ suc m = omega arith in
        (z ∙ ap suc g.0 ∙ sym (ap length (ancestors_up rows i (i + 1) w (omega arith) p parent_of)), omega arith)

-- the rows that passed have earlier parents, and so has one more whose parent was tested
pub rows_upward : (s : Store) (i : ℕ) → below i (row_test s) ≡ true → Upward i (rows_in s.prepared)
unfolding fine_row row_test
rows_upward s i h = record {
  up = λ k l. every_at (row_tests (count s) (rows_in s.prepared) k) 5 (both_true _ _ (below_true i (row_test s) h k l)).0;
}

-- ---- its own rules first, then apart from earlier ones

module _ (s : Store) (i : ℕ) (a : Bool) (e : a ≡ fine_row (count s) (rows_in s.prepared) i) where
  pub row_own : not a ≡ true → false ≡ row_test s i
  unfolding row_test
  row_own t = rw (sym e ∙ not-true a t)

  pub row_other : not a ≡ false → (z : Bool) → z ≡ below i (apart_rows (rows_in s.prepared) i) → z ≡ row_test s i
  unfolding row_test
  row_other t z f = rw (sym e ∙ not-false a t) f

-- ---- a group of rules: its bound holds of any region that is laid out so, and the loop tests the others side by side

cross : (a b c d : Bool) → (a && b) && (c && d) ≡ (a && c) && (b && d)
cross true true c d = refl
cross true false c d = sym (and-false c)
cross false b c d = refl

both_below : (n : ℕ) (p q : ℕ → Bool) → below n (λ i. p i && q i) ≡ below n p && below n q
unfolding below
both_below zero p q = refl
both_below (suc n) p q = ap (λ (b : Bool). b && (p n && q n)) (both_below n p q) ∙ cross (below n p) (below n q) (p n) (q n)

group : (n k : ℕ) (p q : ℕ → Bool) → n ≤ k → below n (λ i. p i && q i) ≡ every (leb n k ∷ below n p ∷ below n q ∷ [])
group n k p q h = rw (le-leb n k h, and-true (below n q)) (both_below n p q)

module _ (r : List ℕ) (l : Laid r) where
  names_all : below (count (view r)) (name_test (view r)) ≡ fine_names (view r)
  unfolding fine_names name_test
  names_all =
      group (count (view r)) 256 (λ n. fine_entry (count (view r)) (entry_at (view r) n)) (λ n. below n (apart_names (view r) n)) l.names

  lines_all : below (length (view r).lines) (line_test (view r)) ≡ fine_lines (view r)
  unfolding fine_lines line_test
  lines_all = rw (le-leb _ _ l.lines) (sym (and-true _))

  rows_all : below (length (rows_in (view r).prepared)) (row_test (view r)) ≡ fine_rows (view r)
  unfolding fine_rows row_test
  rows_all =
      group (length (rows_in (view r).prepared)) 160 (fine_row (count (view r)) (rows_in (view r).prepared)) (λ i. below i (apart_rows (rows_in (view r).prepared) i))
      l.rows

  module _ (i m : ℕ) where
    pub names_stop : (b : Bool) → i < m → m ≡ count (view r) → b ≡ name_test (view r) i → not b ≡ true → false ≡ fine_names (view r)
    names_stop b h q e t = loop_stop i m (count (view r)) (name_test (view r)) b h q e t ∙ names_all

    pub names_end : below i (name_test (view r)) ≡ true → i ≤ m → m ≤ i → m ≡ count (view r) → true ≡ fine_names (view r)
    names_end h a b q = loop_end i m (count (view r)) (name_test (view r)) h a b q ∙ names_all

    pub lines_end : below i (line_test (view r)) ≡ true → i ≤ m → m ≤ i → m ≡ length (view r).lines → true ≡ fine_lines (view r)
    lines_end h a b q = loop_end i m (length (view r).lines) (line_test (view r)) h a b q ∙ lines_all

    pub rows_stop : (b : Bool) → i < m → m ≡ length (rows_in (view r).prepared) → b ≡ row_test (view r) i → not b ≡ true → false ≡ fine_rows (view r)
    rows_stop b h q e t = loop_stop i m (length (rows_in (view r).prepared)) (row_test (view r)) b h q e t ∙ rows_all

    pub rows_end : below i (row_test (view r)) ≡ true → i ≤ m → m ≤ i → m ≡ length (rows_in (view r).prepared) → true ≡ fine_rows (view r)
    rows_end h a b q = loop_end i m (length (rows_in (view r).prepared)) (row_test (view r)) h a b q ∙ rows_all

    module _ (k : ℕ) (x : Line) (b : Bool) (q : k ≡ count (view r)) (e : x ≡ get_or (view r).lines i no_line) (f : b ≡ fine_line k x) where
      pub line_more : below i (line_test (view r)) ≡ true → not b ≡ false → below (i + 1) (line_test (view r)) ≡ true
      line_more h t = loop_more i (line_test (view r)) b h (line_is (view r) i k x b q e f) t

      pub lines_stop : i < m → m ≡ length (view r).lines → not b ≡ true → false ≡ fine_lines (view r)
      lines_stop h g t = loop_stop i m (length (view r).lines) (line_test (view r)) b h g (line_is (view r) i k x b q e f) t ∙ lines_all
