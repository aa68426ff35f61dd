-- The slots of a table: where they lie, what their test says, and what stands in them. Assumes nothing.
use mathlib.Core.Path.{◌≡◌, refl, sym, ap, ap₂, ◌∙◌}
use mathlib.Core.List.{List, [], ◌∷◌, ◌++◌}
use mathlib.Core.Bool.{Bool, true, false, ◌&&◌, cond, and-true, and_assoc}
use Prim.Native.Nat.{ℕ, zero, suc, ◌+◌, ◌-◌, ◌*◌, ◌<◌, ◌≤◌}
use native.Mathlib.Nat.{add-zero, add-suc, zero-mul, suc-mul, add-mul, mul-le-mul_right}
use native.Mathlib.Omega.{arith}
use lib.ListN.{length, take, drop, get_or, replicate}
use lib.Seq.{take-add, drop-drop}
use lib.Dec.{eqb, ltb}
use borrow.Author.Tests.{eqb-true, lt-ltb, le-ltb, ltb-true, ltb-false}
use Rattle.word.specs.Be.{Bytes, cut}
use Rattle.word.specs.Tests.{below}
use Rattle.word.specs.Table.{table}
use Rattle.word.specs.Codec.{Codec, slot, zeros, ok_slot, ok_table}
use Rattle.word.proofs.Be.{bytes_cut}
use Rattle.word.proofs.Tests.{both_true, below_true, true_below, below_false, below_more}
use Rattle.word.proofs.Cut.{length_cut, cut_cut}
use Rattle.word.proofs.Table.{table_ext, cut_table, cut_pad}

-- ---- where

-- slot i of c ends in the table
pub slot_room : (i c w : ℕ) → i < c → i * w + w ≤ c * w
slot_room i c w h =
    let e : suc i * w ≤ c * w = mul-le-mul_right w h in
    let f : suc i * w ≡ i * w + w = suc-mul i w in omega arith

pub slot_end : (base w c i : ℕ) (r : List ℕ) → i < c → base + c * w ≤ length r → base + i * w + w ≤ length r
slot_end base w c i r h g = let e : i * w + w ≤ c * w = slot_room i c w h in omega arith

-- a table's slot is the list's
pub slot_in : (base w c i : ℕ) (r : List ℕ) → i < c → cut (i * w) w (cut base (c * w) r) ≡ slot base w i r
slot_in base w c i r h = cut_cut base (c * w) (i * w) w r (slot_room i c w h)

-- ---- zeros

pub zeros_replicate : (n : ℕ) → zeros (replicate n 0) ≡ true
unfolding zeros
zeros_replicate zero = refl
zeros_replicate (suc n) = zeros_replicate n

pub zeros_true : (r : List ℕ) → zeros r ≡ true → r ≡ replicate (length r) 0
unfolding zeros
zeros_true [] e = refl
zeros_true (x ∷ xs) e =
    let b : (eqb x 0 ≡ true) × (zeros xs ≡ true) = both_true (eqb x 0) (zeros xs) e in
    ap₂ (λ (n : ℕ) (l : List ℕ). n ∷ l) (eqb-true x 0 b.0) (zeros_true xs b.1)

pub zeros_append : (xs ys : List ℕ) → zeros (xs ++ ys) ≡ (zeros xs && zeros ys)
unfolding zeros
zeros_append [] ys = refl
zeros_append (x ∷ xs) ys = ap (λ (t : Bool). eqb x 0 && t) (zeros_append xs ys) ∙ sym (and_assoc (eqb x 0) (zeros xs) (zeros ys))

-- ---- the test of a slot

pub ok_below : (test : List ℕ → Bool) (n i : ℕ) (s : List ℕ) → i < n → ok_slot test n i s ≡ test s
unfolding ok_slot
ok_below test n i s h = ap (λ (t : Bool). cond t (test s) (zeros s)) (lt-ltb i n h)

pub ok_above : (test : List ℕ → Bool) (n i : ℕ) (s : List ℕ) → n ≤ i → ok_slot test n i s ≡ zeros s
unfolding ok_slot
ok_above test n i s h = ap (λ (t : Bool). cond t (test s) (zeros s)) (le-ltb i n h)

-- ---- the test, turn by turn: the first i slots

pub ok_table_none : (w : ℕ) (test : List ℕ → Bool) (n base : ℕ) (r : List ℕ) → ok_table w test 0 n base r ≡ true
unfolding ok_table below
ok_table_none w test n base r = refl

pub ok_table_more : (w : ℕ) (test : List ℕ → Bool) (i n base : ℕ) (r : List ℕ) → ok_table w test i n base r ≡ true
    → ok_slot test n i (slot base w i r) ≡ true → ok_table w test (i + 1) n base r ≡ true
unfolding ok_table
ok_table_more w test i n base r p q = below_more i (λ i. ok_slot test n i (slot base w i r)) p q

pub ok_table_false : (w : ℕ) (test : List ℕ → Bool) (c i n base : ℕ) (r : List ℕ) → i < c
    → ok_slot test n i (slot base w i r) ≡ false → ok_table w test c n base r ≡ false
unfolding ok_table
ok_table_false w test c i n base r h q = below_false c (λ i. ok_slot test n i (slot base w i r)) i h q

-- the whole test: the element's test at each slot in use, and zeros in every other
pub true_ok_table : (w : ℕ) (test : List ℕ → Bool) (c n base : ℕ) (r : List ℕ)
    → ((i : ℕ) → i < c → i < n → test (slot base w i r) ≡ true) → ((i : ℕ) → i < c → n ≤ i → slot base w i r ≡ replicate w 0)
    → ok_table w test c n base r ≡ true
unfolding ok_table
true_ok_table w test c n base r held free = true_below c (λ i. ok_slot test n i (slot base w i r)) (λ i h. go i h (ltb i n) refl)
  where
    go : (i : ℕ) → i < c → (t : Bool) → ltb i n ≡ t → ok_slot test n i (slot base w i r) ≡ true
    go i h true p = let l : i < n = ltb-true i n p in ok_below test n i (slot base w i r) l ∙ held i h l
    go i h false p =
        let l : n ≤ i = ltb-false i n p in
        ok_above test n i (slot base w i r) l ∙ ap zeros (free i h l) ∙ zeros_replicate w

-- two runs of zeros that follow one another
zeros_cut : (a k w : ℕ) (r : List ℕ) → zeros (cut a k r) && zeros (cut (a + k) w r) ≡ zeros (cut a (k + w) r)
zeros_cut a k w r =
    sym (ap zeros (take-add k w (drop a r) ∙ ap (λ (l : List ℕ). cut a k r ++ take w l) (drop-drop k a r))
    ∙ zeros_append (cut a k r) (cut (a + k) w r))

-- the first n slots, and behind them m slots that are one run of zeros
module _ (w : ℕ) (test : List ℕ → Bool) (n base : ℕ) (r : List ℕ) where
  ok_table_run : (m : ℕ) → ok_table w test (n + m) n base r ≡ (ok_table w test n n base r && zeros (cut (base + n * w) (m * w) r))
  unfolding ok_table below zeros
  ok_table_run zero =
      ap (λ (c : ℕ). ok_table w test c n base r) (add-zero n)
      ∙ sym (ap (λ (k : ℕ). ok_table w test n n base r && zeros (cut (base + n * w) k r)) (zero-mul w)
      ∙ and-true (ok_table w test n n base r))
  ok_table_run (suc m) =
      ap (λ (c : ℕ). ok_table w test c n base r) (add-suc n m)
      ∙ ap₂ (λ (a b : Bool). a && b) (ok_table_run m) last
      ∙ and_assoc (ok_table w test n n base r) (zeros (cut (base + n * w) (m * w) r)) (zeros (cut (base + n * w + m * w) w r))
      ∙ ap (λ (b : Bool). ok_table w test n n base r && b) joined
    where
      last : ok_slot test n (n + m) (slot base w (n + m) r) ≡ zeros (cut (base + n * w + m * w) w r)
      last =
          let e : base + (n + m) * w ≡ base + n * w + m * w = omega (arith, add-mul n m w) in
          ok_above test n (n + m) (slot base w (n + m) r) (omega arith) ∙ ap (λ (a : ℕ). zeros (cut a w r)) e

      joined : zeros (cut (base + n * w) (m * w) r) && zeros (cut (base + n * w + m * w) w r) ≡ zeros (cut (base + n * w) (suc m * w) r)
      joined =
          zeros_cut (base + n * w) (m * w) w r
          ∙ ap (λ (k : ℕ). zeros (cut (base + n * w) k r)) (sym (suc-mul m w))

  -- where the slots in use pass, one test is left
  pub ok_table_rest : (c : ℕ) → ok_table w test n n base r ≡ true → n ≤ c
      → zeros (cut (base + n * w) (base + c * w - (base + n * w)) r) ≡ ok_table w test c n base r
  ok_table_rest c e h =
      let f : n + (c - n) ≡ c = omega arith in
      let g : base + c * w - (base + n * w) ≡ (c - n) * w = omega (arith, add-mul n (c - n) w, ap (λ (k : ℕ). k * w) f) in
      ap (λ (k : ℕ). zeros (cut (base + n * w) k r)) g
      ∙ sym (ap (λ (k : ℕ). ok_table w test k n base r) (sym f)
      ∙ ok_table_run (c - n)
      ∙ ap (λ (t : Bool). t && zeros (cut (base + n * w) ((c - n) * w) r)) e)

module _ (w : ℕ) (test : List ℕ → Bool) (c n base : ℕ) (r : List ℕ)
    (ok : ok_table w test c n base r ≡ true) (i : ℕ) (h : i < c) where
  ok_slot_lem : ok_slot test n i (slot base w i r) ≡ true
  unfolding ok_table
  ok_slot_lem = below_true c (λ i. ok_slot test n i (slot base w i r)) ok i h

  pub ok_table_held : i < n → test (slot base w i r) ≡ true
  ok_table_held l = sym (ok_below test n i (slot base w i r) l) ∙ ok_slot_lem

  pub ok_table_free : base + c * w ≤ length r → n ≤ i → slot base w i r ≡ replicate w 0
  ok_table_free g l =
      zeros_true (slot base w i r) (sym (ok_above test n i (slot base w i r) l) ∙ ok_slot_lem)
      ∙ ap (λ (n : ℕ). replicate n 0) (length_cut (base + i * w) w r (slot_end base w c i r h g))

-- ---- a stretch that is a table, by its slots

module _ {A : Type 0} (w : ℕ) (enc : A → List ℕ) (c base : ℕ) (r : List ℕ) (xs : List A) where
  pub slots_table : (d : A) → base + c * w ≤ length r
      → ((i : ℕ) → i < c → i < length xs → slot base w i r ≡ enc (get_or xs i d))
      → ((i : ℕ) → i < c → length xs ≤ i → slot base w i r ≡ replicate w 0) → table c enc w xs ≡ cut base (c * w) r
  slots_table d g held free =
      table_ext w enc c xs d (cut base (c * w) r) (length_cut base (c * w) r g)
      (λ i h l. slot_in base w c i r h ∙ held i h l) (λ i h l. slot_in base w c i r h ∙ free i h l)

  module _ (wide : (x : A) → length (enc x) ≡ w) (is : cut base (c * w) r ≡ table c enc w xs) (i : ℕ) (h : i < c) where
    pub table_slot : (d : A) → i < length xs → slot base w i r ≡ enc (get_or xs i d)
    table_slot d l = sym (slot_in base w c i r h) ∙ ap (cut (i * w) w) is ∙ cut_table w enc wide c i xs d h l

    pub table_free : length xs ≤ i → slot base w i r ≡ replicate w 0
    table_free l = sym (slot_in base w c i r h) ∙ ap (cut (i * w) w) is ∙ cut_pad w enc wide c i xs h l

-- ---- under a codec

module _ {A : Type 0} {Fits : A → Type 0} (C : Codec A Fits) (c n base : ℕ) (r : List ℕ) where
  -- a slot in use of an accepted stretch is the form of what it decodes to, which fits
  module _ (b : Bytes r) (g : base + c * C.w ≤ length r) (ok : ok_table C.w C.test c n base r ≡ true)
      (i : ℕ) (h : i < c) (l : i < n) where
    slot_bytes : Bytes (slot base C.w i r)
    slot_bytes = bytes_cut (base + i * C.w) C.w b

    slot_wide : length (slot base C.w i r) ≡ C.w
    slot_wide = length_cut (base + i * C.w) C.w r (slot_end base C.w c i r h g)

    slot_ok : C.test (slot base C.w i r) ≡ true
    slot_ok = ok_table_held C.w C.test c n base r ok i h l

    pub slot_form : slot base C.w i r ≡ C.enc (C.dec (slot base C.w i r))
    slot_form = sym (C.enc_dec (slot base C.w i r) slot_bytes slot_wide slot_ok)

    pub slot_fits : Fits (C.dec (slot base C.w i r))
    slot_fits = C.fits_dec (slot base C.w i r) slot_bytes slot_wide slot_ok
