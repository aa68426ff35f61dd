-- Big-endian numbers: the two round trips, lengths and bounds; and lists of bytes. Assumes nothing.
use mathlib.Core.Path.{◌≡◌, refl, sym, ap, ◌∙◌}
use mathlib.Core.List.{List, [], ◌∷◌, ◌++◌, append-nil}
use mathlib.Core.Bool.{Bool, true, false, ◌&&◌, false≢true}
use Prim.Native.Nat.{ℕ, zero, suc, ◌+◌, ◌*◌, ◌/◌, ◌%◌, ◌^◌, ◌<◌, ◌≤◌}
use native.Mathlib.Nat.{pow-suc, pow-zero, pow-le-pow_right}
use native.Mathlib.Nat.{div-lt_iff_lt-mul, mod-lt, add-suc, suc-add, add-zero, zero-add, mul_assoc}
use native.Mathlib.Omega.{arith}
use lib.ListN.{length, take, drop, get_or, replicate, length-take}
use lib.Arith.{digits_div, digits_mod}
use lib.Dec.{lit<, ltb}
use lib.Pow.{are_bytes}
use borrow.Author.Tests.{lt-ltb, ltb-true}
use Rattle.word.specs.Be.{Bytes, cut, val_on, val, be_on, be}
use Rattle.word.specs.Be.Bytes.{none, more}

-- ---- numbers

length_be_on : (k x : ℕ) (acc : List ℕ) → length (be_on k x acc) ≡ k + length acc
unfolding be_on
length_be_on zero x acc = omega arith
length_be_on (suc k) x acc = length_be_on k (x / 256) (x % 256 ∷ acc) ∙ omega arith

pub length_be : (k x : ℕ) → length (be k x) ≡ k
unfolding be
length_be k x = length_be_on k x [] ∙ omega arith

val_be_on : (k x a : ℕ) (acc : List ℕ) → x < 256 ^ k → val_on a (be_on k x acc) ≡ val_on (a * 256 ^ k + x) acc
unfolding val_on be_on
val_be_on zero x a acc h = ap (λ (n : ℕ). val_on n acc) (omega (arith, pow-zero 256))
val_be_on (suc k) x a acc h =
    val_be_on k (x / 256) a (x % 256 ∷ acc) ((div-lt_iff_lt-mul (lit< tt)).1 (rw (← pow-suc) h))
    ∙ ap (λ (n : ℕ). val_on n acc) (omega (arith, pow-suc 256 k, mul_assoc a (256 ^ k) 256, ap (λ (n : ℕ). a * n) (pow-suc 256 k)))

-- what was written is read, of a number that fits
pub val_be : (k x : ℕ) → x < 256 ^ k → val (be k x) ≡ x
unfolding val be val_on
val_be k x h = val_be_on k x 0 [] h ∙ omega arith

be_val_on : {bs : List ℕ} → Bytes bs → (k a : ℕ) (acc : List ℕ) → be_on (length bs + k) (val_on a bs) acc ≡ be_on k a (bs ++ acc)
unfolding val_on be_on
be_val_on none k a acc = let e : 0 + k ≡ k = omega arith in ap (λ (n : ℕ). be_on n a acc) e
be_val_on (more {b} {bs} h t) k a acc =
    let e : suc (length bs) + k ≡ length bs + suc k = omega arith in
    ap (λ (n : ℕ). be_on n (val_on (a * 256 + b) bs) acc) e
    ∙ be_val_on t (suc k) (a * 256 + b) acc
    ∙ rw (digits_div a h, digits_mod a h)

-- what was read is written, of bytes
pub be_val : {bs : List ℕ} → Bytes bs → be (length bs) (val bs) ≡ bs
unfolding val be be_on
be_val {bs} t = ap (λ (n : ℕ). be_on n (val_on 0 bs) []) (sym (add-zero (length bs))) ∙ be_val_on t 0 0 [] ∙ append-nil bs

val_on_lt : {bs : List ℕ} → Bytes bs → (k a : ℕ) → a < 256 ^ k → val_on a bs < 256 ^ (k + length bs)
unfolding val_on
val_on_lt none k a h = rw add-zero h
val_on_lt (more {b} {bs} g t) k a h =
    rw (add-suc k (length bs), ← suc-add k (length bs)) (val_on_lt t (suc k) (a * 256 + b) (rw pow-suc (omega arith)))

pub val_lt : {bs : List ℕ} → Bytes bs → val bs < 256 ^ length bs
unfolding val
val_lt {bs} t = rw (← zero-add (length bs)) (val_on_lt t 0 0 (omega (arith, pow-zero 256)))

-- ---- lists of bytes

pub bytes_append : {xs ys : List ℕ} → Bytes xs → Bytes ys → Bytes (xs ++ ys)
bytes_append none t = t
bytes_append (more h r) t = more h (bytes_append r t)

pub bytes_take : (n : ℕ) {xs : List ℕ} → Bytes xs → Bytes (take n xs)
bytes_take zero t = none
bytes_take (suc n) none = none
bytes_take (suc n) (more h t) = more h (bytes_take n t)

pub bytes_drop : (n : ℕ) {xs : List ℕ} → Bytes xs → Bytes (drop n xs)
bytes_drop zero t = t
bytes_drop (suc n) none = none
bytes_drop (suc n) (more h t) = bytes_drop n t

pub bytes_cut : (a k : ℕ) {xs : List ℕ} → Bytes xs → Bytes (cut a k xs)
bytes_cut a k t = bytes_take k (bytes_drop a t)

-- at most k bytes make a number below 256^k
pub val_cut : (a k : ℕ) {xs : List ℕ} → Bytes xs → val (cut a k xs) < 256 ^ k
val_cut a k {xs} t =
    let short : length (cut a k xs) ≤ k = simp length-take (omega arith) in
    let h : val (cut a k xs) < 256 ^ length (cut a k xs) = val_lt (bytes_cut a k t) in
    let p : 256 ^ length (cut a k xs) ≤ 256 ^ k = pow-le-pow_right (lit< tt) short in
    omega arith

bytes_be_on : (k x : ℕ) {acc : List ℕ} → Bytes acc → Bytes (be_on k x acc)
unfolding be_on
bytes_be_on zero x t = t
bytes_be_on (suc k) x t = bytes_be_on k (x / 256) (more (mod-lt x (lit< tt)) t)

pub bytes_be : (k x : ℕ) → Bytes (be k x)
unfolding be
bytes_be k x = bytes_be_on k x none

pub bytes_zeros : (n : ℕ) → Bytes (replicate n 0)
bytes_zeros zero = none
bytes_zeros (suc n) = more (lit< tt) (bytes_zeros n)

-- what a slice holds are bytes
pub bytes_all : (xs : List ℕ) → ((i : ℕ) → get_or xs i 0 < 256) → Bytes xs
bytes_all [] h = none
bytes_all (x ∷ xs) h = more (h 0) (bytes_all xs (λ i. h (suc i)))

-- the library's test
pub bytes_are : {xs : List ℕ} → Bytes xs → are_bytes xs ≡ true
bytes_are none = refl
bytes_are (more {b} h t) = rw (lt-ltb b 256 h) (bytes_are t)

pub are_bytes_lem : (xs : List ℕ) → are_bytes xs ≡ true → Bytes xs
are_bytes_lem [] e = none
are_bytes_lem (x ∷ xs) e = go (ltb x 256) refl e (λ q. are_bytes_lem xs q)
  where
    go : (t : Bool) → ltb x 256 ≡ t → (t && are_bytes xs) ≡ true → (are_bytes xs ≡ true → Bytes xs) → Bytes (x ∷ xs)
    go true p q f = more (ltb-true x 256 p) (f q)
    go false p q f = absurd (false≢true q)
