-- Fields of any widths: read back, written back, written one after the other; and the codec of elements made of them.
-- Assumes nothing.
use mathlib.Core.Path.{◌≡◌, refl, sym, ap, ap₂, ◌∙◌}
use mathlib.Core.List.{List, [], ◌∷◌, ◌++◌, append_assoc}
use mathlib.Core.Bool.{Bool, true}
use Prim.Native.Nat.{ℕ, ◌+◌, ◌≤◌}
use native.Mathlib.Omega.{arith}
use lib.ListN.{length, take, drop, length-append, length-drop}
use lib.Seq.{take_all, take-append-le, drop-append_seam, take-append_seam, drop-drop, take-add}
use Rattle.word.specs.Be.{Bytes, cut, val, be}
use Rattle.word.specs.Be.Bytes.{none as no_bytes}
use Rattle.word.specs.Cut.{put, total}
use Rattle.word.specs.Codec.{Codec}
use Rattle.word.specs.Fields.{fields, unfields, Fit, Same, puts}
use Rattle.word.specs.Fields.Fit.{end, and}
use Rattle.word.specs.Fields.Same.{none, one}
use Rattle.word.proofs.Be.{length_be, val_be, be_val, val_cut, bytes_append, bytes_be, bytes_cut}
use Rattle.word.proofs.Cut.{length_cut}

-- ---- one field

-- one that was read is written as it stood
pub be_cut : (a k : ℕ) (r : List ℕ) → Bytes r → a + k ≤ length r → be k (val (cut a k r)) ≡ cut a k r
be_cut a k r b h = ap (λ (n : ℕ). be n (val (cut a k r))) (sym (length_cut a k r h)) ∙ be_val (bytes_cut a k b)

-- ---- all fields

pub length_fields : (ws xs : List ℕ) → length (fields ws xs) ≡ total ws
unfolding fields
length_fields [] xs = refl
length_fields (w ∷ ws) [] = rw (length-append, length_be) (ap (λ (n : ℕ). w + n) (length_fields ws []))
length_fields (w ∷ ws) (x ∷ xs) = rw (length-append, length_be) (ap (λ (n : ℕ). w + n) (length_fields ws xs))

pub bytes_fields : (ws xs : List ℕ) → Bytes (fields ws xs)
unfolding fields
bytes_fields [] xs = no_bytes
bytes_fields (w ∷ ws) [] = bytes_append (bytes_be w 0) (bytes_fields ws [])
bytes_fields (w ∷ ws) (x ∷ xs) = bytes_append (bytes_be w x) (bytes_fields ws xs)

-- the middle one of three pieces is that stretch
pub at_seam : (p q r : List ℕ) (a w : ℕ) → length p ≡ a → length q ≡ w → cut a w (p ++ (q ++ r)) ≡ q
at_seam p q r a w e f =
    rw (← e, drop-append_seam, take-append-le w q r (omega arith)) (take_all w q (omega arith))

unfields_from : {ws xs : List ℕ} → Fit ws xs → (p : List ℕ) (a : ℕ) → length p ≡ a → unfields a ws (p ++ fields ws xs) ≡ xs
unfolding fields
unfields_from end p a e = refl
unfields_from (and {w} {x} {ws} {xs} h t) p a e =
    ap₂ (λ (n : ℕ) (l : List ℕ). n ∷ l)
    (ap val (at_seam p (be w x) (fields ws xs) a w e (length_be w x)) ∙ val_be w x h)
    (ap (unfields (a + w) ws) (sym (append_assoc p (be w x) (fields ws xs)))
    ∙ unfields_from t (p ++ be w x) (a + w) (rw (length-append, length_be) (omega arith)))

-- what was written is read
pub unfields_fields : (ws xs : List ℕ) → Fit ws xs → unfields 0 ws (fields ws xs) ≡ xs
unfields_fields ws xs t = unfields_from t [] 0 refl

fields_from : (ws : List ℕ) (a : ℕ) (r : List ℕ) → Bytes r → a + total ws ≤ length r
    → fields ws (unfields a ws r) ≡ cut a (total ws) r
unfolding fields
fields_from [] a r t h = refl
fields_from (w ∷ ws) a r t h =
    ap₂ (λ (p q : List ℕ). p ++ q) (be_cut a w r t (omega arith))
    (fields_from ws (a + w) r t (omega arith) ∙ ap (take (total ws)) (sym (drop-drop w a r)))
    ∙ sym (take-add w (total ws) (drop a r))

-- what was read is written
pub fields_unfields : (ws r : List ℕ) → Bytes r → length r ≡ total ws → fields ws (unfields 0 ws r) ≡ r
fields_unfields ws r t e = fields_from ws 0 r t (omega arith) ∙ take_all (total ws) r (omega arith)

fit_from : (ws : List ℕ) (a : ℕ) (r : List ℕ) → Bytes r → a + total ws ≤ length r → Fit ws (unfields a ws r)
fit_from [] a r t h = end
fit_from (w ∷ ws) a r t h = and (val_cut a w t) (fit_from ws (a + w) r t (omega arith))

-- what was read fits
pub fit_unfields : (ws r : List ℕ) → Bytes r → length r ≡ total ws → Fit ws (unfields 0 ws r)
fit_unfields ws r t e = fit_from ws 0 r t (omega arith)

puts_from : {ws xs : List ℕ} → Same ws xs → (p q : List ℕ) (a : ℕ) → length p ≡ a → length q ≡ total ws
    → puts a ws xs (p ++ q) ≡ p ++ fields ws xs
unfolding fields
puts_from none p [] a e f = refl
puts_from none p (y ∷ q) a e f = absurd (omega arith)
puts_from (one {w} {x} {ws} {xs} t) p q a e f =
    let h : put a w (p ++ q) (be w x) ≡ (p ++ be w x) ++ drop w q =
    rw (← e, drop-append_seam, take-append_seam) (sym (append_assoc p (be w x) (drop w q))) in
    ap (puts (a + w) ws xs) h
    ∙ puts_from t (p ++ be w x) (drop w q) (a + w) (rw (length-append, length_be) (omega arith)) (rw length-drop (omega arith))
    ∙ append_assoc p (be w x) (fields ws xs)

-- the fields written one after the other, over whatever stood there
pub puts_fields : (ws xs r : List ℕ) → Same ws xs → length r ≡ total ws → puts 0 ws xs r ≡ fields ws xs
puts_fields ws xs r t e = puts_from t [] r 0 refl e

-- ---- the codec of elements that are rows of numbers

-- `nums` are the numbers of an element, `of` the element of numbers, `ok` the test of numbers that fit
module _ {A : Type 0} {Fits : A → Type 0} (ws : List ℕ) (nums : A → List ℕ) (of : List ℕ → A) (ok : List ℕ → Bool)
    (fit : (x : A) → Fits x → Fit ws (nums x))
    (of-nums : (x : A) → Fits x → of (nums x) ≡ x)
    (ok-nums : (x : A) → Fits x → ok (nums x) ≡ true)
    (nums-of : (xs : List ℕ) → Fit ws xs → ok xs ≡ true → nums (of xs) ≡ xs)
    (fits-of : (xs : List ℕ) → Fit ws xs → ok xs ≡ true → Fits (of xs)) where
  unfoldable pub fielded : Codec A Fits
  fielded = record {
    w = total ws;
    enc = λ x. fields ws (nums x);
    dec = λ r. of (unfields 0 ws r);
    test = λ r. ok (unfields 0 ws r);
    wide = λ x. length_fields ws (nums x);
    bytes = λ x f. bytes_fields ws (nums x);
    dec_enc = λ x f. ap of (unfields_fields ws (nums x) (fit x f)) ∙ of-nums x f;
    test_enc = λ x f. ap ok (unfields_fields ws (nums x) (fit x f)) ∙ ok-nums x f;
    enc_dec = λ r b l t. ap (fields ws) (nums-of (unfields 0 ws r) (fit_unfields ws r b l) t) ∙ fields_unfields ws r b l;
    fits_dec = λ r b l t. fits-of (unfields 0 ws r) (fit_unfields ws r b l) t;
  }
