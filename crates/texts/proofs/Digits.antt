-- Digits: turns and ends of the loops over them. Assumes nothing.
use mathlib.Core.Path.{◌≡◌, sym, ap, ap₂, ◌∙◌}
use mathlib.Core.Bool.{true}
use mathlib.Core.List.{List, [], ◌∷◌, ◌++◌, append-nil}
use Prim.Native.Nat.{ℕ, zero, suc, ◌+◌, ◌-◌, ◌*◌, ◌/◌, ◌%◌, ◌^◌, ◌≤◌, ◌<◌}
use native.Mathlib.Nat.{pow-suc, pow-le-pow_right}
use native.Mathlib.Numerals.{add-one}
use native.Mathlib.Omega.{arith}
use lib.ListN.{length, get_or, take, drop, set, length-set, length-drop, drop_of_length-le}
use lib.Seq.{drop-cons, drop-set-lt, get_or-set_same, take_at, length-take-le}
use lib.Dec.{lit<}
use Rattle.model.specs.Basic.{all}
use Rattle.model.specs.PackedText.{digit, digits_on, ref_line, is_digit, digit_value, digits_from}
use Rattle.word.specs.Cut.{put}
use Rattle.word.proofs.Tests.{both_true}
use Rattle.model.proofs.Digits.{value_small, digits_append, length_digits}

-- ---- digits written

pub put_turn : (s r : List ℕ) (x i d : ℕ) → d ≡ digit (x % 16) → 0 < i → i ≤ length s → digits_on i x (drop i s) ≡ r
    → digits_on (i - 1) (x / 16) (drop (i - 1) (set s (i - 1) d)) ≡ r
unfolding digits_on
put_turn s r x zero d q z h e = absurd (omega arith)
put_turn s r x (suc j) d q z h e =
    let k : suc j - 1 ≡ j = omega arith in
    let f : drop j (set s j d) ≡ digit (x % 16) ∷ drop (suc j) s =
    drop-cons (set s j d) j 0 (rw length-set h)
    ∙ rw (get_or-set_same s j d 0 h, drop-set-lt (suc j) s j d (omega arith), q) in
    rw k (ap (digits_on j (x / 16)) f ∙ e)

-- ---- a ref line written

pub name_done : (r b name : List ℕ) → length r ≡ 2 + length name → b ≡ name
    → put 1 (1 + length name - 1) (set (set r 0 32) (1 + length name) 10) b ≡ 32 ∷ (name ++ (10 ∷ []))
name_done [] b name h e = absurd (omega arith)
name_done (x ∷ xs) b name h e =
    let n : ℕ = length name in
    let k : 1 + n - 1 ≡ n = omega arith in
    let j : 1 + n ≡ suc n = omega arith in
    let s : n < length xs = omega arith in
    let t : length (set xs n 10) ≤ suc n = rw length-set (omega arith) in
    let last : drop n (set xs n 10) ≡ 10 ∷ [] =
    drop-cons (set xs n 10) n 0 (rw length-set s) ∙ rw (get_or-set_same xs n 10 0 s, drop_of_length-le (set xs n 10) t) in
    rw (k, j) (ap₂ (λ (b : List ℕ) (d : List ℕ). 32 ∷ (b ++ d)) e last)

pub line_done : (l ds p rest name : List ℕ) (x : ℕ) → length l ≡ 42 + length name → ds ≡ digits_on (length (take 40 l)) x [] → p ≡ 32 ∷ (name ++ (10 ∷ []))
    → put 40 (length (ds ++ rest) - 40) (ds ++ rest) p ≡ ref_line (record { name = name; object = x })
unfolding ref_line
line_done l ds p rest name x h q f =
    let e : ds ≡ digits_on 40 x [] = q ∙ ap (λ (n : ℕ). digits_on n x []) (length-take-le 40 l (omega arith)) in
    let s : length ds ≡ 40 = ap length e ∙ length_digits 40 x [] in
    let d : length (drop 40 (ds ++ rest)) ≤ length (ds ++ rest) - 40 = omega (arith, length-drop 40 (ds ++ rest)) in
    rw (take_at ds rest 40 s, drop_of_length-le (drop 40 (ds ++ rest)) d, append-nil p)
    (ap₂ (λ (a b : List ℕ). a ++ b) e f ∙ sym (digits_append 40 x (32 ∷ (name ++ (10 ∷ [])))))

-- ---- digits read

-- one digit more still fits sixteen
pub room : (a b i n : ℕ) → a < 16 ^ i → i < n → n ≤ 16 → b < 16 → a * 16 + b < 2 ^ 64
room a b i n ha hi hn hb =
    let q : i ≤ 15 = omega arith in
    let p : 16 ^ i ≤ 16 ^ 15 = pow-le-pow_right (lit< tt) q in omega arith

pub wider : (a b i : ℕ) → a < 16 ^ i → b < 16 → a * 16 + b < 16 ^ (i + 1)
wider a b i ha hb = rw (add-one, pow-suc) (omega arith)

pub read_turn : (s : List ℕ) (acc i v : ℕ) → i < length s → v ≡ digit_value (get_or s i 0) → digits_from acc (drop i s) ≡ digits_from 0 s
    → digits_from (acc * 16 + v) (drop (i + 1) s) ≡ digits_from 0 s
unfolding digits_from
read_turn s acc i v h q e = rw (add-one, q) (sym (ap (digits_from acc) (drop-cons s i 0 h)) ∙ e)

pub read_end : (s : List ℕ) (acc i : ℕ) → length s ≤ i → digits_from acc (drop i s) ≡ digits_from 0 s → acc ≡ digits_from 0 s
unfolding digits_from
read_end s acc i h e = sym (ap (digits_from acc) (drop_of_length-le s h)) ∙ e

-- every digit of a list of them is one
pub digit_at : (s : List ℕ) (i : ℕ) → i < length s → all is_digit s ≡ true → is_digit (get_or s i 0) ≡ true
digit_at [] i h e = absurd (omega arith)
digit_at (b ∷ bs) zero h e = (both_true (is_digit b) (all is_digit bs) e).0
digit_at (b ∷ bs) (suc i) h e = digit_at bs i (omega arith) (both_true (is_digit b) (all is_digit bs) e).1

-- its value is that of a digit
pub value_at : (s : List ℕ) (i v : ℕ) → i < length s → all is_digit s ≡ true → v ≡ digit_value (get_or s i 0) → v < 16
value_at s i v h e q = rw q (value_small (get_or s i 0) (digit_at s i h e))
