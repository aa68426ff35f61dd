-- What the tests' proofs cite, over variables. Assumes nothing.
use mathlib.Core.Path.{◌≡◌, refl, sym, ap, ap₂, ◌∙◌}
use mathlib.Core.Bool.{Bool, true, false, not, ◌&&◌, cond, and-true}
use mathlib.Core.List.{List, [], ◌∷◌, ◌++◌}
use Prim.Native.Nat.{ℕ, ◌+◌, ◌-◌, ◌*◌, ◌<◌, ◌≤◌}
use native.Mathlib.Nat.{mul-le-mul_right}
use native.Mathlib.Omega.{arith}
use lib.ListN.{length, get_or, drop, length-drop}
use lib.Seq.{take_all, drop-drop}
use lib.Dec.{eqb, leb, lit≤}
use mir.Syntax.{w8, w64}
use mir.Val.{Fits}
use borrow.Author.Tests.{lt-leb, le-leb, leb-true, eq-eqb, ne_eqb, not-true, not-false}
use Rattle.word.specs.Be.{cut, val}
use Rattle.word.specs.Codec.{zeros, ok_slot, ok_table}
use Rattle.word.specs.Text.{test_text}
use Rattle.word.specs.Tests.{every}
use Rattle.word.proofs.Be.{bytes_all, bytes_are}
use Rattle.word.proofs.Cut.{length_cut}
use Rattle.word.proofs.Tests.{every_at, every_false}
use Rattle.word.proofs.Codec.{slot_end, ok_below, ok_table_more, ok_table_false, ok_table_rest}
use Rattle.region.specs.Layout.{version_at, rest_at, setting_at, names_at, lines_at, mode_at, rows_at, packed_lock_at, region_size, rest_size}
use Rattle.region.specs.Region.{name_count, line_count, mode_number, row_count, layout_tests, layout}
use Rattle.layout.specs.declared.Table.{Table}
use Rattle.layout.specs.declared.Table.TheVariants.{Names, Looses, Packeds, Locks, Rows, Lines}
use Rattle.layout.specs.Tables.{width_of, limit_of, base_of, test_of, table_test, head_tests, count_tests, table_tests}

-- ---- lists of tests

every_both : (ts us : List Bool) → every (ts ++ us) ≡ (every ts && every us)
every_both [] us = refl
every_both (true ∷ ts) us = every_both ts us
every_both (false ∷ ts) us = refl

-- a test that passes leaves it to the rest
pass : {t u b : Bool} → t ≡ true → u ≡ b → t && u ≡ b
pass p q = ap₂ (λ (t u : Bool). t && u) p q

-- ---- what a slot holds

module _ (s : List ℕ) where
  pub text_long : 64 < get_or s 0 0 → false ≡ test_text 64 s
  unfolding test_text
  text_long h = ap (λ (t : Bool). t && zeros (drop (get_or s 0 0) (drop 1 s))) (sym (lt-leb _ _ h))

  text_rest : (n : ℕ) → cut (n + 1) (length s - (n + 1)) s ≡ drop n (drop 1 s)
  text_rest n =
      let l : length (drop (n + 1) s) ≡ length s - (n + 1) = length-drop (n + 1) s in
      let f : n + 1 ≡ 1 + n = omega arith in
      take_all (length s - (n + 1)) (drop (n + 1) s) (omega arith) ∙ ap (λ (k : ℕ). drop k s) f ∙ sym (drop-drop n 1 s)

  pub text_held : (b : Bool) → get_or s 0 0 ≤ 64 → b ≡ zeros (cut (get_or s 0 0 + 1) (length s - (get_or s 0 0 + 1)) s) → b ≡ test_text 64 s
  unfolding test_text
  text_held b h e =
      e
      ∙ ap zeros (text_rest (get_or s 0 0))
      ∙ ap (λ (t : Bool). t && zeros (drop (get_or s 0 0) (drop 1 s))) (sym (le-leb _ _ h))

  -- ---- by its table

  module _ (t : Table) where
    pub wide : (u : Table) → length s ≡ width_of t → t ≡ u → length s ≡ width_of u
    wide u e q = e ∙ ap width_of q

    pub table_held_lem : (u : Table) (b : Bool) → t ≡ u → b ≡ test_of u s → b ≡ test_of t s
    table_held_lem u b q e = e ∙ ap (λ (t : Table). test_of t s) (sym q)

-- ---- a table

pub slot_order : (a w : ℕ) → a ≤ a + w
slot_order a w = omega arith

lent : (a w : ℕ) → a + w - a ≡ w
lent a w = omega arith

-- a turn of the loop over the n slots in use, of c
module _ (r : List ℕ) (base w c n i : ℕ) (h : i < n) (m : n ≤ c) (g : base + c * w ≤ length r) where
  in_use : base + i * w + w ≤ length r
  in_use = slot_end base w c i r (omega arith) g

  module _ (e : length r ≡ region_size) where
    pub slot_offset : Fits w64 (i * w)
    slot_offset = record { fits = omega (arith, in_use) }

    pub slot_from : Fits w64 (base + i * w)
    slot_from = record { fits = omega (arith, in_use) }

    pub slot_to : Fits w64 (base + i * w + w)
    slot_to = record { fits = omega (arith, in_use) }

  pub slot_last : base + i * w + w ≤ length r
  slot_last = in_use

  pub slot_wide : (t : Table) → w ≡ width_of t → length (cut (base + i * w) (base + i * w + w - (base + i * w)) r) ≡ width_of t
  slot_wide t e =
      ap (λ (k : ℕ). length (cut (base + i * w) k r)) (lent (base + i * w) w)
      ∙ length_cut (base + i * w) w r in_use
      ∙ e

module _ (w : ℕ) (test : List ℕ → Bool) (i n base : ℕ) (r : List ℕ) (h : i < n) (ok : Bool)
    (e : ok ≡ test (cut (base + i * w) (base + i * w + w - (base + i * w)) r)) where
  slot_is : ok_slot test n i (cut (base + i * w) w r) ≡ ok
  slot_is =
      ok_below test n i (cut (base + i * w) w r) h
      ∙ ap (λ (k : ℕ). test (cut (base + i * w) k r)) (sym (lent (base + i * w) w))
      ∙ sym e

  pub table_more : ok_table w test i n base r ≡ true → ok ≡ true → ok_table w test (i + 1) n base r ≡ true
  table_more k t = ok_table_more w test i n base r k (slot_is ∙ t)

  pub table_stop : (c : ℕ) → n ≤ c → ok ≡ false → false ≡ ok_table w test c n base r
  table_stop c k t = sym (ok_table_false w test c i n base r (omega arith) (slot_is ∙ t))

-- the run behind them, up to the table's end
module _ (r : List ℕ) (base w c n : ℕ) (m : n ≤ c) (g : base + c * w ≤ length r) where
  used : n * w ≤ c * w
  used = mul-le-mul_right w m

  module _ (e : length r ≡ region_size) where
    pub free_offset : Fits w64 (n * w)
    free_offset = record { fits = omega (arith, used) }

    pub free_from : Fits w64 (base + n * w)
    free_from = record { fits = omega (arith, used) }

  pub free_order : base + n * w ≤ base + c * w
  free_order = omega (arith, used)

module _ (r : List ℕ) (base w c : ℕ) (g : base + c * w ≤ length r) (e : length r ≡ region_size) where
  pub end_offset : Fits w64 (c * w)
  end_offset = record { fits = omega arith }

  pub end_at : Fits w64 (base + c * w)
  end_at = record { fits = omega arith }

pub table_rest : (w : ℕ) (test : List ℕ → Bool) (i c n base : ℕ) (r : List ℕ) (b : Bool) → n ≤ i → i ≤ n → n ≤ c
    → ok_table w test i n base r ≡ true → b ≡ zeros (cut (base + n * w) (base + c * w - (base + n * w)) r)
    → b ≡ ok_table w test c n base r
table_rest w test i c n base r b p q m k e =
    let f : i ≡ n = omega arith in
    e ∙ ok_table_rest w test n base r c (rw f at k) m

-- ---- a table by its kind

table_fits : (t : Table) → base_of t + limit_of t * width_of t ≤ region_size
table_fits Names = lit≤ tt
table_fits Looses = lit≤ tt
table_fits Packeds = lit≤ tt
table_fits Locks = lit≤ tt
table_fits Rows = lit≤ tt
table_fits Lines = lit≤ tt

table_few : (t : Table) → limit_of t ≤ 1024
table_few Names = lit≤ tt
table_few Looses = lit≤ tt
table_few Packeds = lit≤ tt
table_few Locks = lit≤ tt
table_few Rows = lit≤ tt
table_few Lines = lit≤ tt

module _ (t : Table) (w c base : ℕ) (w= : w ≡ width_of t) (c= : c ≡ limit_of t) (base= : base ≡ base_of t) where
  pub table_within : (r : List ℕ) → length r ≡ region_size → base + c * w ≤ length r
  table_within r e = rw (w=, c=, base=, e) (table_fits t)

  pub table_below : (n : ℕ) → n ≤ limit_of t → n ≤ c
  table_below n h = rw c= h

  pub table_short : c ≤ 1024
  table_short = rw c= (table_few t)

  pub table_whole : (n : ℕ) (r : List ℕ) (b : Bool) → b ≡ ok_table w (test_of t) c n base r → b ≡ table_test t n r
  unfolding table_test
  table_whole n r b e =
      e
      ∙ ap (λ (w : ℕ). ok_table w (test_of t) c n base r) w=
      ∙ ap₂ (λ (c base : ℕ). ok_table (width_of t) (test_of t) c n base r) c= base=

-- ---- the head

pub rows_idle : (m : ℕ) → m ≡ 0 → ◌≡◌ {A = ℕ} 0 (cond (eqb m 0) 0 160)
rows_idle m e = ap (λ (t : Bool). cond t 0 160) (sym (eq-eqb m 0 e))

pub rows_busy : (m : ℕ) → (m ≡ 0 → ⊥) → ◌≡◌ {A = ℕ} 160 (cond (eqb m 0) 0 160)
rows_busy m e = ap (λ (t : Bool). cond t 0 160) (sym (ne_eqb m 0 e))

module _ (r : List ℕ) where
  module _ (m : ℕ) (e : m ≡ val (cut mode_at 1 r)) where
    pub mode_bad : 3 < m → false ≡ every (count_tests r)
    unfolding count_tests layout_tests mode_number
    mode_bad h = sym (every_false (count_tests r) 0 (lt-leb _ _ (rw e at h)))

    module _ (x b : ℕ) (f : x ≡ val (cut rows_at 1 r)) (p : b ≡ cond (eqb m 0) 0 160) where
      rows_is : leb (row_count r) (cond (eqb (mode_number r) 0) 0 160) ≡ leb x b
      unfolding row_count mode_number
      rows_is = ap₂ (λ (x m : ℕ). leb x (cond (eqb m 0) 0 160)) (sym f) (sym e) ∙ ap (leb x) (sym p)

      pub rows_bad : b < x → false ≡ every (count_tests r)
      unfolding count_tests layout_tests
      rows_bad h = sym (every_false (count_tests r) 1 (rows_is ∙ lt-leb x b h))

      pub counts_rest : (y : ℕ) → m ≤ 3 → x ≤ b → y ≡ val (cut packed_lock_at 1 r) → leb y 2 ≡ every (count_tests r)
      unfolding count_tests layout_tests mode_number
      counts_rest y h k q =
          sym (pass (le-leb _ _ (rw e at h)) (pass (rows_is ∙ le-leb x b k) (and-true _ ∙ ap (λ (y : ℕ). leb y 2) (sym q))))

  module _ (x : ℕ) where
    pub version_bad : x ≡ val (cut version_at 1 r) → (x ≡ 1 → ⊥) → false ≡ every (head_tests r)
    unfolding head_tests layout_tests
    version_bad e p = sym (every_false (head_tests r) 0 (ne_eqb _ _ (λ q. p (e ∙ q))))

    pub size_bad : x ≡ val (cut rest_at 4 r) → (x ≡ rest_size → ⊥) → false ≡ every (head_tests r)
    unfolding head_tests layout_tests
    size_bad e p = sym (every_false (head_tests r) 1 (ne_eqb _ _ (λ q. p (e ∙ q))))

    pub setting_bad : x ≡ val (cut setting_at 1 r) → 2 < x → false ≡ every (head_tests r)
    unfolding head_tests layout_tests
    setting_bad e p = sym (every_false (head_tests r) 2 (lt-leb _ _ (rw e at p)))

    pub names_bad : x ≡ val (cut names_at 2 r) → 256 < x → false ≡ every (head_tests r)
    unfolding head_tests layout_tests name_count
    names_bad e p = sym (every_false (head_tests r) 3 (lt-leb _ _ (rw e at p)))

    pub lines_bad : x ≡ val (cut lines_at 2 r) → 1024 < x → false ≡ every (head_tests r)
    unfolding head_tests layout_tests line_count
    lines_bad e p = sym (every_false (head_tests r) 4 (lt-leb _ _ (rw e at p)))

  pub head_rest : (v z s n m : ℕ) (b : Bool) → v ≡ val (cut version_at 1 r) → v ≡ 1 → z ≡ val (cut rest_at 4 r) → z ≡ rest_size
      → s ≡ val (cut setting_at 1 r) → s ≤ 2 → n ≡ val (cut names_at 2 r) → n ≤ 256 → m ≡ val (cut lines_at 2 r) → m ≤ 1024
      → b ≡ every (count_tests r) → b ≡ every (head_tests r)
  unfolding head_tests count_tests layout_tests name_count line_count
  head_rest v z s n m b v= v1 z= z1 s= s1 n= n1 m= m1 e =
      sym (pass (eq-eqb _ _ (sym v= ∙ v1))
      (pass (eq-eqb _ _ (sym z= ∙ z1))
      (pass (le-leb _ _ (rw s= at s1))
      (pass (le-leb _ _ (rw n= at n1))
      (pass (le-leb _ _ (rw m= at m1)) (sym e))))))

-- ---- the tables

module _ (r : List ℕ) where
  -- the head has passed: no count is past its table's slots
  module _ (e : every (head_tests r) ≡ true) (n : ℕ) where
    pub names_few : n ≡ val (cut names_at 2 r) → n ≤ 256
    unfolding head_tests layout_tests name_count
    names_few p = rw p (leb-true _ _ (every_at (head_tests r) 3 e))

    pub lines_few : n ≡ val (cut lines_at 2 r) → n ≤ 1024
    unfolding head_tests layout_tests line_count
    lines_few p = rw p (leb-true _ _ (every_at (head_tests r) 4 e))

    pub rows_few : n ≡ val (cut rows_at 1 r) → n ≤ 160
    unfolding head_tests layout_tests row_count
    rows_few p = rw p (under (eqb (mode_number r) 0) (leb-true _ _ (every_at (head_tests r) 6 e)))
      where
        under : (t : Bool) → val (cut rows_at 1 r) ≤ cond t 0 160 → val (cut rows_at 1 r) ≤ 160
        under true h = omega arith
        under false h = h

  -- a table's test with the count as it was read
  module _ (t : Table) {n k : ℕ} {ok : Bool} (e : n ≡ k) (p : ok ≡ table_test t n r) where
    table_is : table_test t k r ≡ ok
    table_is = ap (λ (n : ℕ). table_test t n r) (sym e) ∙ sym p

    table_fails : not ok ≡ true → table_test t k r ≡ false
    table_fails q = table_is ∙ not-true ok q

    table_passes : not ok ≡ false → table_test t k r ≡ true
    table_passes q = table_is ∙ not-false ok q

  module _ (n : ℕ) (e : n ≡ val (cut names_at 2 r)) (ok : Bool) where
    pub names_fail : ok ≡ table_test Names n r → not ok ≡ true → false ≡ every (table_tests r)
    unfolding table_test table_tests layout_tests name_count
    names_fail p q = sym (every_false (table_tests r) 0 (table_fails Names e p q))

    pub looses_fail : ok ≡ table_test Looses n r → not ok ≡ true → false ≡ every (table_tests r)
    unfolding table_test table_tests layout_tests name_count
    looses_fail p q = sym (every_false (table_tests r) 1 (table_fails Looses e p q))

    pub packeds_fail : ok ≡ table_test Packeds n r → not ok ≡ true → false ≡ every (table_tests r)
    unfolding table_test table_tests layout_tests name_count
    packeds_fail p q = sym (every_false (table_tests r) 2 (table_fails Packeds e p q))

    pub locks_fail : ok ≡ table_test Locks n r → not ok ≡ true → false ≡ every (table_tests r)
    unfolding table_test table_tests layout_tests name_count
    locks_fail p q = sym (every_false (table_tests r) 3 (table_fails Locks e p q))

  pub rows_fail : (n : ℕ) (ok : Bool) → n ≡ val (cut rows_at 1 r) → ok ≡ table_test Rows n r → not ok ≡ true
      → false ≡ every (table_tests r)
  unfolding table_test table_tests layout_tests row_count
  rows_fail n ok e p q = sym (every_false (table_tests r) 4 (table_fails Rows e p q))

  pub tables_rest : (n m k : ℕ) (a b c d e f : Bool) → n ≡ val (cut names_at 2 r) → m ≡ val (cut lines_at 2 r) → k ≡ val (cut rows_at 1 r)
      → a ≡ table_test Names n r → not a ≡ false
      → b ≡ table_test Looses n r → not b ≡ false
      → c ≡ table_test Packeds n r → not c ≡ false
      → d ≡ table_test Locks n r → not d ≡ false
      → e ≡ table_test Rows k r → not e ≡ false
      → f ≡ table_test Lines m r → f ≡ every (table_tests r)
  unfolding table_test table_tests layout_tests name_count line_count row_count
  tables_rest n m k a b c d e f n= m= k= a= a1 b= b1 c= c1 d= d1 e= e1 f= =
      sym (pass (table_passes Names n= a= a1)
      (pass (table_passes Looses n= b= b1)
      (pass (table_passes Packeds n= c= c1)
      (pass (table_passes Locks n= d= d1)
      (pass (table_passes Rows k= e= e1) (and-true _ ∙ table_is Lines m= f=))))))

-- ---- the layout

module _ (r : List ℕ) where
  pub layout_size : (length r ≡ region_size → ⊥) → false ≡ layout r
  unfolding layout layout_tests
  layout_size p = sym (every_false (layout_tests r) 0 (ne_eqb _ _ p))

  -- every slice holds bytes
  module _ (h : (i : ℕ) → Fits w8 (get_or r i 0)) (e : length r ≡ region_size) where
    layout_is : layout r ≡ (every (head_tests r) && every (table_tests r))
    unfolding layout layout_tests head_tests table_tests
    layout_is =
        ap₂ (λ (a b : Bool). a && (b && every (head_tests r ++ table_tests r))) (eq-eqb _ _ e) (bytes_are (bytes_all r (λ i. (h i).fits)))
        ∙ every_both (head_tests r) (table_tests r)

    pub layout_head : (ok : Bool) → ok ≡ every (head_tests r) → not ok ≡ true → false ≡ layout r
    layout_head ok p q = sym (layout_is ∙ ap (λ (t : Bool). t && every (table_tests r)) (sym p ∙ not-true ok q))

    pub head_passed : (ok : Bool) → ok ≡ every (head_tests r) → not ok ≡ false → every (head_tests r) ≡ true
    head_passed ok p q = sym p ∙ not-false ok q

    pub layout_tables : (ok b : Bool) → ok ≡ every (head_tests r) → not ok ≡ false → b ≡ every (table_tests r) → b ≡ layout r
    layout_tables ok b p q f = f ∙ sym (layout_is ∙ ap (λ (t : Bool). t && every (table_tests r)) (sym p ∙ not-false ok q))
