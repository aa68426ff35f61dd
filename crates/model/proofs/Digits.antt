-- Digits: what was written is read, and what was read is written; and so of a ref line without its line feed. Assumes nothing.
use Rattle.std.specs.Prelude.{Some}
use mathlib.Core.Path.{◌≡◌, refl, sym, ap, ap₂, subst, ◌∙◌}
use mathlib.Core.Bool.{Bool, true, false, cond, false≢true}
use mathlib.Core.List.{List, [], ◌∷◌, ◌++◌, append_assoc}
use Prim.Native.Nat.{ℕ, zero, suc, ◌+◌, ◌-◌, ◌*◌, ◌/◌, ◌%◌, ◌^◌, ◌≤◌, ◌<◌}
use native.Mathlib.Nat.{pow-suc, pow-zero, div-lt_iff_lt-mul, mod-lt, mul_assoc, add-zero, add-suc, suc-add}
use native.Mathlib.Omega.{arith}
use lib.ListN.{length, get_or, take, drop, length-drop, get_or-eq_default}
use lib.Seq.{length-take-le, split_at, take_at, get_or_at, drop-append-add, take-add}
use lib.Arith.{digits_div, digits_mod}
use lib.Dec.{eqb, ltb, leb, lit<}
use borrow.Author.Tests.{eq-eqb, eqb-true, ltb-true, ltb-false, lt-ltb, le-ltb, leb-true, leb-false, le-leb, lt-leb}
use Rattle.word.specs.Be.{cut}
use Rattle.word.proofs.Tests.{both_true, every_at}
use Rattle.model.specs.Basic.{text, every, all}
use Rattle.model.specs.Names.{between, is_char, begins, under, is_name}
use Rattle.model.specs.PackedText.{Ref, digit, digits_on, ref_line, is_digit, digit_value, digits_from, ref_tests, ref_in}
use Rattle.model.proofs.Binds.{some_is, cond_some}
use Rattle.model.proofs.NameBytes.{either}

-- ---- a digit

module _ (b : ℕ) where
  decimal : 48 ≤ b → b ≤ 57 → between "0" "9" b ≡ true
  decimal h k = rw (le-leb 48 b h, le-leb b 57 k)

  not_decimal : 58 ≤ b → between "0" "9" b ≡ false
  not_decimal h = let l : 48 ≤ b = omega arith in let m : 57 < b = omega arith in rw (le-leb 48 b l, lt-leb b 57 m)

  lettered : 97 ≤ b → b ≤ 102 → between "a" "f" b ≡ true
  lettered h k = rw (le-leb 97 b h, le-leb b 102 k)

-- its byte is a digit's, and of that value
digit_is : (d : ℕ) → d < 16 → (is_digit (digit d) ≡ true) × (digit_value (digit d) ≡ d)
digit_is d h = go (ltb d 10) refl
  where
    go : (t : Bool) → ltb d 10 ≡ t → (is_digit (cond t (48 + d) (87 + d)) ≡ true) × (digit_value (cond t (48 + d) (87 + d)) ≡ d)
    go true p =
        let l : d < 10 = ltb-true d 10 p in
        let e : between "0" "9" (48 + d) ≡ true = decimal (48 + d) (omega arith) (omega arith) in
        (rw e, rw e (omega arith))
    go false p =
        let l : 10 ≤ d = ltb-false d 10 p in
        let e : between "0" "9" (87 + d) ≡ false = not_decimal (87 + d) (omega arith) in
        let f : between "a" "f" (87 + d) ≡ true = lettered (87 + d) (omega arith) (omega arith) in
        (rw (e, f), rw e (omega arith))

-- the values of the two runs of digits
run_value : (b : ℕ) → 48 ≤ b → b ≤ 57 → b - 48 ≡ digit_value b
run_value b h k = rw (decimal b h k)

pub high_value : (b : ℕ) → 58 ≤ b → b - 87 ≡ digit_value b
high_value b h = rw (not_decimal b h)

-- and a digit's byte is that of its value
abbrev Back : ℕ → Type 0
Back b = (digit_value b < 16) × (digit (digit_value b) ≡ b)

low_back : (b : ℕ) → 48 ≤ b → b ≤ 57 → Back b
low_back b l m =
    let v : digit_value b ≡ b - 48 = sym (run_value b l m) in
    let k : b - 48 < 10 = omega arith in
    let d : digit (b - 48) ≡ b = rw (lt-ltb (b - 48) 10 k) (omega arith) in
    (omega arith, ap digit v ∙ d)

high_back : (b : ℕ) → 97 ≤ b → b ≤ 102 → Back b
high_back b l m =
    let far : 58 ≤ b = omega arith in
    let v : digit_value b ≡ b - 87 = sym (high_value b far) in
    let k : 10 ≤ b - 87 = omega arith in
    let d : digit (b - 87) ≡ b = rw (le-ltb (b - 87) 10 k) (omega arith) in
    (omega arith, ap digit v ∙ d)

-- a digit lies in one of them
in_runs : {P : Type 0} (b : ℕ) → is_digit b ≡ true → (48 ≤ b → b ≤ 57 → P) → (97 ≤ b → b ≤ 102 → P) → P
in_runs {P} b h low high = either (between "0" "9" b) (between "a" "f" b) h first second
  where
    first : between "0" "9" b ≡ true → P
    first e = let t : (leb 48 b ≡ true) × (leb b 57 ≡ true) = both_true (leb 48 b) _ e in low (leb-true 48 b t.0) (leb-true b 57 t.1)

    second : between "a" "f" b ≡ true → P
    second e = let t : (leb 97 b ≡ true) × (leb b 102 ≡ true) = both_true (leb 97 b) _ e in high (leb-true 97 b t.0) (leb-true b 102 t.1)

digit_back : (b : ℕ) → is_digit b ≡ true → Back b
digit_back b h = in_runs b h (low_back b) (high_back b)

pub value_small : (b : ℕ) → is_digit b ≡ true → digit_value b < 16
value_small b h = (digit_back b h).0

-- it lies behind the first of the first, and outside of that behind the first of the second
pub digit_first : (b : ℕ) → is_digit b ≡ true → 48 ≤ b
digit_first b h = in_runs b h (λ l m. l) (λ l m. omega arith)

pub low_value : (b : ℕ) → is_digit b ≡ true → b < 58 → b - 48 ≡ digit_value b
low_value b h d = run_value b (digit_first b h) (omega arith)

pub digit_later : (b : ℕ) → is_digit b ≡ true → 58 ≤ b → 87 ≤ b
digit_later b h d = in_runs b h (λ l m. absurd (omega arith)) (λ l m. omega arith)

-- ---- digits

pub digits_append : (k x : ℕ) (acc : List ℕ) → digits_on k x acc ≡ digits_on k x [] ++ acc
unfolding digits_on
digits_append zero x acc = refl
digits_append (suc k) x acc =
    digits_append k (x / 16) (digit (x % 16) ∷ acc)
    ∙ sym (append_assoc (digits_on k (x / 16) []) (digit (x % 16) ∷ []) acc)
    ∙ ap (λ (l : List ℕ). l ++ acc) (sym (digits_append k (x / 16) (digit (x % 16) ∷ [])))

pub length_digits : (k x : ℕ) (acc : List ℕ) → length (digits_on k x acc) ≡ k + length acc
unfolding digits_on
length_digits zero x acc = omega arith
length_digits (suc k) x acc = length_digits k (x / 16) (digit (x % 16) ∷ acc) ∙ omega arith

all_digits : (k x : ℕ) (acc : List ℕ) → all is_digit acc ≡ true → all is_digit (digits_on k x acc) ≡ true
unfolding digits_on
all_digits zero x acc h = h
all_digits (suc k) x acc h =
    all_digits k (x / 16) (digit (x % 16) ∷ acc) (rw ((digit_is (x % 16) (mod-lt x (lit< tt))).0, h))

-- past the digits of a number there are zeros
digits_zeros : (j k x : ℕ) (acc : List ℕ) → x < 16 ^ j → digits_on (j + k) x acc ≡ digits_on k 0 (digits_on j x acc)
unfolding digits_on
digits_zeros zero k x acc h =
    let z : x ≡ 0 = omega (arith, pow-zero 16) in
    let e : 0 + k ≡ k = omega arith in
    ap₂ (λ (n y : ℕ). digits_on n y acc) e z
digits_zeros (suc j) k x acc h =
    let e : suc j + k ≡ suc (j + k) = omega arith in
    ap (λ (n : ℕ). digits_on n x acc) e
    ∙ digits_zeros j k (x / 16) (digit (x % 16) ∷ acc) ((div-lt_iff_lt-mul (lit< tt)).1 (rw (← pow-suc) h))

value_digits : (k x a : ℕ) (acc : List ℕ) → x < 16 ^ k → digits_from a (digits_on k x acc) ≡ digits_from (a * 16 ^ k + x) acc
unfolding digits_from digits_on
value_digits zero x a acc h = ap (λ (n : ℕ). digits_from n acc) (omega (arith, pow-zero 16))
value_digits (suc k) x a acc h =
    let v : digit_value (digit (x % 16)) ≡ x % 16 = (digit_is (x % 16) (mod-lt x (lit< tt))).1 in
    value_digits k (x / 16) a (digit (x % 16) ∷ acc) ((div-lt_iff_lt-mul (lit< tt)).1 (rw (← pow-suc) h))
    ∙ ap (λ (n : ℕ). digits_from ((a * 16 ^ k + x / 16) * 16 + n) acc) v
    ∙ ap (λ (n : ℕ). digits_from n acc) (omega (arith, pow-suc 16 k, mul_assoc a (16 ^ k) 16, ap (λ (n : ℕ). a * n) (pow-suc 16 k)))

digits_value : (ds : List ℕ) → all is_digit ds ≡ true → (k a : ℕ) (acc : List ℕ)
    → digits_on (length ds + k) (digits_from a ds) acc ≡ digits_on k a (ds ++ acc)
unfolding digits_from digits_on
digits_value [] h k a acc = let e : 0 + k ≡ k = omega arith in ap (λ (n : ℕ). digits_on n a acc) e
digits_value (b ∷ bs) h k a acc =
    let t : (is_digit b ≡ true) × (all is_digit bs ≡ true) = both_true (is_digit b) (all is_digit bs) h in
    let d : Back b = digit_back b t.0 in
    let e : suc (length bs) + k ≡ length bs + suc k = omega arith in
    ap (λ (n : ℕ). digits_on n (digits_from (a * 16 + digit_value b) bs) acc) e
    ∙ digits_value bs t.1 (suc k) (a * 16 + digit_value b) acc
    ∙ ap₂ (λ (x y : ℕ). digits_on k x (y ∷ (bs ++ acc))) (digits_div a d.0) (ap digit (digits_mod a d.0) ∙ d.1)

-- so many digits make a number below that power
value_below : (ds : List ℕ) → all is_digit ds ≡ true → (k a : ℕ) → a < 16 ^ k → digits_from a ds < 16 ^ (k + length ds)
unfolding digits_from
value_below [] h k a l = rw add-zero l
value_below (b ∷ bs) h k a l =
    let t : (is_digit b ≡ true) × (all is_digit bs ≡ true) = both_true (is_digit b) (all is_digit bs) h in
    let v : digit_value b < 16 = value_small b t.0 in
    rw (add-suc k (length bs), ← suc-add k (length bs)) (value_below bs t.1 (suc k) (a * 16 + digit_value b) (rw pow-suc (omega arith)))

-- ---- a ref line without its line feed

abbrev pub body_of : Ref → List ℕ
body_of r = digits_on 40 r.object (32 ∷ r.name)

pub line_body : (r : Ref) → ref_line r ≡ body_of r ++ (10 ∷ [])
unfolding ref_line
line_body r =
    digits_append 40 r.object (32 ∷ (r.name ++ (10 ∷ [])))
    ∙ sym (append_assoc (digits_on 40 r.object []) (32 ∷ r.name) (10 ∷ []))
    ∙ ap (λ (l : List ℕ). l ++ (10 ∷ [])) (sym (digits_append 40 r.object (32 ∷ r.name)))

-- 24 zeros stand first
pub body_zeros : (r : Ref) → r.object < 2 ^ 64 → body_of r ≡ text "000000000000000000000000" ++ digits_on 16 r.object (32 ∷ r.name)
unfolding digits_on
body_zeros r h = digits_zeros 16 24 r.object (32 ∷ r.name) h

-- the four tests of a ref line, and what it says
module _ (l : List ℕ) (one : all is_digit (take 40 l) ≡ true) (two : under "000000000000000000000000" l ≡ true) (three : is_char " " (get_or l 40 0) ≡ true)
    (four : is_name (drop 41 l) ≡ true) where
  tested : ref_in l ≡ Some (record { name = drop 41 l; object = digits_from 0 (cut 24 16 l) })
  unfolding ref_in
  tested = rw (one, two, three, four)

begins_more : (p l : List ℕ) → begins p (p ++ l) ≡ true
begins_more [] l = refl
begins_more (x ∷ p) l = rw (eq-eqb x x refl) (begins_more p l)

module _ (r : Ref) (small : r.object < 2 ^ 64) (name : is_name r.name ≡ true) where
  ds : List ℕ
  ds = digits_on 40 r.object []

  sized : length ds ≡ 40
  unfolding ds
  sized = length_digits 40 r.object []

  whole : body_of r ≡ ds ++ (32 ∷ r.name)
  unfolding ds
  whole = digits_append 40 r.object (32 ∷ r.name)

  first : take 40 (body_of r) ≡ ds
  first = ap (take 40) whole ∙ take_at ds (32 ∷ r.name) 40 sized

  rest : drop 41 (body_of r) ≡ r.name
  rest =
      ap (drop 41) whole
      ∙ ap (λ (n : ℕ). drop (n + 1) (ds ++ (32 ∷ r.name))) (sym sized)
      ∙ drop-append-add ds (32 ∷ r.name) 1

  value : digits_from 0 (cut 24 16 (body_of r)) ≡ r.object
  unfolding digits_from
  value =
      ap (λ (l : List ℕ). digits_from 0 (take 16 (drop 24 l))) (body_zeros r small)
      ∙ ap (λ (l : List ℕ). digits_from 0 (take 16 l)) (digits_append 16 r.object (32 ∷ r.name))
      ∙ ap (digits_from 0) (take_at (digits_on 16 r.object []) (32 ∷ r.name) 16 (length_digits 16 r.object []))
      ∙ value_digits 16 r.object 0 [] small
      ∙ omega arith

  -- what was written is read
  pub ref_read : ref_in (body_of r) ≡ Some r
  unfolding ds
  ref_read =
      tested (body_of r)
      (ap (all is_digit) first ∙ all_digits 40 r.object [] refl)
      (ap (under "000000000000000000000000") (body_zeros r small) ∙ begins_more (text "000000000000000000000000") (digits_on 16 r.object (32 ∷ r.name)))
      (ap (λ (l : List ℕ). is_char " " (get_or l 40 0)) whole ∙ ap (is_char " ") (get_or_at ds 32 r.name 0 40 sized))
      (ap is_name rest ∙ name)
      ∙ ap₂ (λ (n : List ℕ) (x : ℕ). Some (record { name = n; object = x })) rest value

-- ---- what was read is written

begins_take : (p l : List ℕ) → begins p l ≡ true → take (length p) l ≡ p
begins_take [] l h = refl
begins_take (x ∷ p) [] h = absurd (false≢true h)
begins_take (x ∷ p) (y ∷ l) h =
    let t : (eqb x y ≡ true) × (begins p l ≡ true) = both_true (eqb x y) (begins p l) h in
    ap₂ (λ (n : ℕ) (m : List ℕ). n ∷ m) (sym (eqb-true x y t.0)) (begins_take p l t.1)

pub all_last : (p : ℕ → Bool) (xs ys : List ℕ) → all p (xs ++ ys) ≡ true → all p ys ≡ true
all_last p [] ys h = h
all_last p (x ∷ xs) ys h = all_last p xs ys (both_true (p x) (all p (xs ++ ys)) h).1

-- past the end there is no space
pub long : (l : List ℕ) → is_char " " (get_or l 40 0) ≡ true → 40 < length l
long l h = go (leb (length l) 40) refl
  where
    go : (t : Bool) → leb (length l) 40 ≡ t → 40 < length l
    go false p = leb-false (length l) 40 p
    go true p =
        let e : get_or l 40 0 ≡ 0 = get_or-eq_default l 0 (leb-true (length l) 40 p) in
        let f : get_or l 40 0 ≡ 32 = eqb-true (get_or l 40 0) 32 h in
        absurd (omega arith)

module _ (l : List ℕ) (t : every (ref_tests l) ≡ true) where
  test : (i : ℕ) → get_or (ref_tests l) i true ≡ true
  test i = every_at (ref_tests l) i t

  reaches : 40 < length l
  reaches = long l (test 2)

  ds₁ : List ℕ
  ds₁ = take 16 (drop 24 l)

  sized₁ : length ds₁ ≡ 16
  unfolding ds₁
  sized₁ = length-take-le 16 (drop 24 l) (omega (arith, length-drop 24 l, reaches))

  front : take 40 l ≡ text "000000000000000000000000" ++ ds₁
  unfolding ds₁
  front = take-add 24 16 l ∙ ap (λ (p : List ℕ). p ++ take 16 (drop 24 l)) (begins_take (text "000000000000000000000000") l (test 1))

  digits₁ : all is_digit ds₁ ≡ true
  digits₁ = all_last is_digit (text "000000000000000000000000") ds₁ (ap (all is_digit) (sym front) ∙ test 0)

  back : digits_on 40 (digits_from 0 ds₁) (32 ∷ drop 41 l) ≡ text "000000000000000000000000" ++ (ds₁ ++ (32 ∷ drop 41 l))
  unfolding digits_on
  back =
      ap (λ (n : ℕ). digits_on (n + 24) (digits_from 0 ds₁) (32 ∷ drop 41 l)) (sym sized₁)
      ∙ digits_value ds₁ digits₁ 24 0 (32 ∷ drop 41 l)

  is_body : l ≡ digits_on 40 (digits_from 0 (cut 24 16 l)) (32 ∷ drop 41 l)
  unfolding ds₁
  is_body =
      split_at l 40 0 reaches
      ∙ ap₂ (λ (p : List ℕ) (b : ℕ). p ++ (b ∷ drop 41 l)) front (eqb-true (get_or l 40 0) 32 (test 2))
      ∙ append_assoc (text "000000000000000000000000") (take 16 (drop 24 l)) (32 ∷ drop 41 l)
      ∙ sym back

-- a line that says a ref reaches to its name, and the object fits 64 bits
pub ref_reaches : (l : List ℕ) (r : Ref) → ref_in l ≡ Some r → 41 ≤ length l
unfolding ref_in
ref_reaches l r e =
    let t = cond_some (every (ref_tests l)) (Some (record { name = drop 41 l; object = digits_from 0 (cut 24 16 l) })) r e in
    omega (arith, reaches l t.0)

pub ref_name : (l : List ℕ) (r : Ref) → ref_in l ≡ Some r → r.name ≡ drop 41 l
unfolding ref_in
ref_name l r e =
    let t = cond_some (every (ref_tests l)) (Some (record { name = drop 41 l; object = digits_from 0 (cut 24 16 l) })) r e in
    ap (λ (x : Ref). x.name) (sym (some_is t.1))

pub ref_small : (l : List ℕ) (r : Ref) → ref_in l ≡ Some r → r.object < 2 ^ 64
unfolding ref_in ds₁
ref_small l r e =
    let t = cond_some (every (ref_tests l)) (Some (record { name = drop 41 l; object = digits_from 0 (cut 24 16 l) })) r e in
    let q : record { name = drop 41 l; object = digits_from 0 (cut 24 16 l) } ≡ r = some_is t.1 in
    let d : all is_digit (ds₁ l t.0) ≡ true = digits₁ l t.0 in
    let v : digits_from 0 (ds₁ l t.0) < 16 ^ (0 + length (ds₁ l t.0)) = value_below (ds₁ l t.0) d 0 0 (lit< tt) in
    let w : digits_from 0 (ds₁ l t.0) < 16 ^ (0 + 16) = subst (λ (n : ℕ). digits_from 0 (ds₁ l t.0) < 16 ^ (0 + n)) (sized₁ l t.0) v in
    subst (λ (x : Ref). x.object < 2 ^ 64) q w

-- a line that says a ref is its line, and the name is one
pub ref_written : (l : List ℕ) (r : Ref) → ref_in l ≡ Some r → (l ≡ body_of r) × (is_name r.name ≡ true)
unfolding ref_in
ref_written l r e =
    let t = cond_some (every (ref_tests l)) (Some (record { name = drop 41 l; object = digits_from 0 (cut 24 16 l) })) r e in
    let q : record { name = drop 41 l; object = digits_from 0 (cut 24 16 l) } ≡ r = some_is t.1 in
    (is_body l t.0 ∙ ap body_of q, ap (λ (x : Ref). is_name x.name) (sym q) ∙ every_at (ref_tests l) 3 t.0)
