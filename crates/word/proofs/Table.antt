-- Laws of tables: slots read, slots written, and a list that is a table by its slots. Assumes nothing.
use mathlib.Core.Path.{◌≡◌, refl, sym, ap, ap₂, ◌∙◌}
use mathlib.Core.List.{List, [], ◌∷◌, ◌++◌, append-nil, append_assoc}
use Prim.Native.Nat.{ℕ, zero, suc, ◌+◌, ◌-◌, ◌*◌, ◌<◌, ◌≤◌}
use native.Mathlib.Nat.{not-suc-le-zero, le_of_suc-le-suc, suc-mul, zero-mul}
use native.Mathlib.Omega.{arith}
use lib.ListN.{length, take, drop, get_or, set, replicate}
use lib.ListN.{length-append, length-drop, length-replicate, take-append-drop, drop_of_length-le, replicate-append-replicate}
use lib.Seq.{set_out, take_all, drop-drop, drop-append-add}
use Rattle.word.specs.Be.{Bytes, cut}
use Rattle.word.specs.Be.Bytes.{none}
use Rattle.word.specs.Cut.{put}
use Rattle.word.specs.Table.{table, tabulate}
use Rattle.word.proofs.Be.{bytes_append, bytes_zeros}
use Rattle.word.proofs.Cut.{cut_left, cut_right, put_left, put_right}

-- ---- lists by their elements

pub length_tabulate {ℓ} : {A : Type ℓ} (n : ℕ) (f : ℕ → A) → length (tabulate n f) ≡ n
unfolding tabulate
length_tabulate zero f = refl
length_tabulate (suc n) f = ap suc (length_tabulate n (λ i. f (suc i)))

pub get_d_tabulate {ℓ} : {A : Type ℓ} (n : ℕ) (f : ℕ → A) (i : ℕ) (d : A) → i < n → get_or (tabulate n f) i d ≡ f i
unfolding tabulate
get_d_tabulate zero f i d h = absurd (not-suc-le-zero h)
get_d_tabulate (suc n) f zero d h = refl
get_d_tabulate (suc n) f (suc i) d h = get_d_tabulate n (λ i. f (suc i)) i d (le_of_suc-le-suc h)

-- a list is what its elements tabulate
pub tabulate_get_d {ℓ} : {A : Type ℓ} (xs : List A) (d : A) (f : ℕ → A)
    → ((i : ℕ) → i < length xs → f i ≡ get_or xs i d) → tabulate (length xs) f ≡ xs
unfolding tabulate
tabulate_get_d [] d f h = refl
tabulate_get_d (x ∷ xs) d f h =
    ap₂ (λ a l. a ∷ l) (h 0 (omega arith)) (tabulate_get_d xs d (λ i. f (suc i)) (λ i g. h (suc i) (omega arith)))

-- ---- slots of w bytes, the first of them s

module _ (w : ℕ) (s t : List ℕ) (wide : length s ≡ w) where
  cut_first : cut (0 * w) w (s ++ t) ≡ s
  cut_first = rw (zero-mul w) (cut_left 0 w s t (omega arith) ∙ take_all w s (omega arith))

  cut_next : (i : ℕ) → cut (suc i * w) w (s ++ t) ≡ cut (i * w) w t
  cut_next i = let e : suc i * w ≡ length s + i * w = rw suc-mul (omega arith) in rw e (cut_right (i * w) w s t)

  put_first : (v : List ℕ) → put (0 * w) w (s ++ t) v ≡ v ++ t
  put_first v =
      let z : length s ≤ w = omega arith in
      rw (zero-mul w) (put_left 0 w s t v (omega arith)
      ∙ ap (λ (l : List ℕ). l ++ t) (ap (λ (l : List ℕ). v ++ l) (drop_of_length-le s z) ∙ append-nil v))

  put_next : (i : ℕ) (v : List ℕ) → put (suc i * w) w (s ++ t) v ≡ s ++ put (i * w) w t v
  put_next i v = let e : suc i * w ≡ length s + i * w = rw suc-mul (omega arith) in rw e (put_right (i * w) w s t v)

-- all slots but the first
module _ (w : ℕ) (r : List ℕ) where
  rest : (c : ℕ) → length r ≡ suc c * w → length (drop w r) ≡ c * w
  rest c e = rw length-drop (let f : suc c * w ≡ c * w + w = suc-mul c w in omega arith)

  later : (i : ℕ) → cut (i * w) w (drop w r) ≡ cut (suc i * w) w r
  later i =
      let e : w + i * w ≡ suc i * w = rw suc-mul (omega arith) in
      ap (take w) (drop-drop (i * w) w r ∙ ap (λ (n : ℕ). drop n r) e)

  joined : (s t : List ℕ) → cut (0 * w) w r ≡ s → t ≡ drop w r → s ++ t ≡ r
  joined s t p q =
      ap₂ (λ (a b : List ℕ). a ++ b) (sym p ∙ ap (λ (n : ℕ). cut n w r) (zero-mul w)) q ∙ take-append-drop w r

-- ---- tables

-- a table of no elements is zeros
pub drop_all : {A : Type 0} (c : ℕ) (enc : A → List ℕ) (w : ℕ) → table c enc w [] ≡ replicate (c * w) 0
unfolding table
drop_all zero enc w = ap (λ (n : ℕ). replicate n 0) (sym (zero-mul w))
drop_all (suc c) enc w =
    let e : w + c * w ≡ suc c * w = rw suc-mul (omega arith) in
    ap (λ (l : List ℕ). replicate w 0 ++ l) (drop_all c enc w)
    ∙ replicate-append-replicate w (c * w) 0
    ∙ ap (λ (n : ℕ). replicate n 0) e

-- forms that are bytes make a table of bytes
pub bytes_table : {A : Type 0} (w : ℕ) (enc : A → List ℕ) (c : ℕ) (xs : List A) (d : A)
    → ((i : ℕ) → i < length xs → Bytes (enc (get_or xs i d))) → Bytes (table c enc w xs)
unfolding table
bytes_table w enc zero xs d h = none
bytes_table w enc (suc c) [] d h = bytes_append (bytes_zeros w) (bytes_table w enc c [] d h)
bytes_table w enc (suc c) (x ∷ xs) d h =
    bytes_append (h 0 (omega arith)) (bytes_table w enc c xs d (λ i g. h (suc i) (omega arith)))

-- an element set whose form is the old one's leaves the table
pub table_same : {A : Type 0} (w : ℕ) (enc : A → List ℕ) (c i : ℕ) (xs : List A) (y d : A) → enc y ≡ enc (get_or xs i d)
    → table c enc w (set xs i y) ≡ table c enc w xs
unfolding table
table_same w enc zero i xs y d e = refl
table_same w enc (suc c) i [] y d e = refl
table_same w enc (suc c) zero (x ∷ xs) y d e = ap (λ (l : List ℕ). l ++ table c enc w xs) e
table_same w enc (suc c) (suc i) (x ∷ xs) y d e = ap (λ (l : List ℕ). enc x ++ l) (table_same w enc c i xs y d e)

-- so does an element set beyond the end
pub table_beyond : {A : Type 0} (w : ℕ) (enc : A → List ℕ) (c i : ℕ) (xs : List A) (y : A) → length xs ≤ i
    → table c enc w (set xs i y) ≡ table c enc w xs
table_beyond w enc c i xs y h = ap (table c enc w) (set_out xs i y h)

module _ {A : Type 0} (w : ℕ) (enc : A → List ℕ) (wide : (x : A) → length (enc x) ≡ w) where
  pub length_table : (c : ℕ) (xs : List A) → length (table c enc w xs) ≡ c * w
  unfolding table
  length_table zero xs = sym (zero-mul w)
  length_table (suc c) [] = rw (length-append, suc-mul, length-replicate, length_table c []) (omega arith)
  length_table (suc c) (x ∷ xs) = rw (length-append, suc-mul, wide, length_table c xs) (omega arith)

  -- a slot is the form of the element with its number
  pub cut_table : (c i : ℕ) (xs : List A) (d : A) → i < c → i < length xs
      → cut (i * w) w (table c enc w xs) ≡ enc (get_or xs i d)
  unfolding table
  cut_table zero i xs d h g = absurd (not-suc-le-zero h)
  cut_table (suc c) i [] d h g = absurd (not-suc-le-zero g)
  cut_table (suc c) zero (x ∷ xs) d h g = cut_first w (enc x) (table c enc w xs) (wide x)
  cut_table (suc c) (suc i) (x ∷ xs) d h g =
      cut_next w (enc x) (table c enc w xs) (wide x) i ∙ cut_table c i xs d (le_of_suc-le-suc h) (le_of_suc-le-suc g)

  -- and zeros past the last element
  pub cut_pad : (c i : ℕ) (xs : List A) → i < c → length xs ≤ i → cut (i * w) w (table c enc w xs) ≡ replicate w 0
  unfolding table
  cut_pad zero i xs h g = absurd (not-suc-le-zero h)
  cut_pad (suc c) zero [] h g = cut_first w (replicate w 0) (table c enc w []) (length-replicate w 0)
  cut_pad (suc c) (suc i) [] h g =
      cut_next w (replicate w 0) (table c enc w []) (length-replicate w 0) i ∙ cut_pad c i [] (le_of_suc-le-suc h) (omega arith)
  cut_pad (suc c) zero (x ∷ xs) h g = absurd (not-suc-le-zero g)
  cut_pad (suc c) (suc i) (x ∷ xs) h g =
      cut_next w (enc x) (table c enc w xs) (wide x) i ∙ cut_pad c i xs (le_of_suc-le-suc h) (le_of_suc-le-suc g)

  -- a slot written is an element set
  pub put_table : (c i : ℕ) (xs : List A) (v : A) → i < c → i < length xs
      → put (i * w) w (table c enc w xs) (enc v) ≡ table c enc w (set xs i v)
  unfolding table
  put_table zero i xs v h g = absurd (not-suc-le-zero h)
  put_table (suc c) i [] v h g = absurd (not-suc-le-zero g)
  put_table (suc c) zero (x ∷ xs) v h g = put_first w (enc x) (table c enc w xs) (wide x) (enc v)
  put_table (suc c) (suc i) (x ∷ xs) v h g =
      put_next w (enc x) (table c enc w xs) (wide x) i (enc v)
      ∙ ap (λ (l : List ℕ). enc x ++ l) (put_table c i xs v (le_of_suc-le-suc h) (le_of_suc-le-suc g))

  -- the first free slot written is an element more
  pub add_table : (c : ℕ) (xs : List A) (v : A) → length xs < c
      → put (length xs * w) w (table c enc w xs) (enc v) ≡ table c enc w (xs ++ (v ∷ []))
  unfolding table
  add_table zero xs v h = absurd (not-suc-le-zero h)
  add_table (suc c) [] v h = put_first w (replicate w 0) (table c enc w []) (length-replicate w 0) (enc v)
  add_table (suc c) (x ∷ xs) v h =
      put_next w (enc x) (table c enc w xs) (wide x) (length xs) (enc v)
      ∙ ap (λ (l : List ℕ). enc x ++ l) (add_table c xs v (le_of_suc-le-suc h))

  -- the last element's slot cleared is an element less
  pub clear_table : (c : ℕ) (xs : List A) (x : A) → length xs < c
      → put (length xs * w) w (table c enc w (xs ++ (x ∷ []))) (replicate w 0) ≡ table c enc w xs
  unfolding table
  clear_table zero xs x h = absurd (not-suc-le-zero h)
  clear_table (suc c) [] x h = put_first w (enc x) (table c enc w []) (wide x) (replicate w 0)
  clear_table (suc c) (y ∷ xs) x h =
      put_next w (enc y) (table c enc w (xs ++ (x ∷ []))) (wide y) (length xs) (replicate w 0)
      ∙ ap (λ (l : List ℕ). enc y ++ l) (clear_table c xs x (le_of_suc-le-suc h))

  -- every element's slot cleared leaves none
  clear_all : (c : ℕ) (xs : List A) → length xs ≤ c
      → put (0 * w) (length xs * w) (table c enc w xs) (replicate (length xs * w) 0) ≡ table c enc w []
  unfolding table
  clear_all c [] h = rw zero-mul
  clear_all zero (x ∷ xs) h = absurd (not-suc-le-zero h)
  clear_all (suc c) (x ∷ xs) h =
      let e : suc (length xs) * w ≡ length (enc x) + length xs * w = let n : length (enc x) ≡ w = wide x in rw suc-mul (omega arith) in
      let f : suc (length xs) * w ≡ w + length xs * w = rw suc-mul (omega arith) in
      ap (λ (k : ℕ). put k (suc (length xs) * w) (enc x ++ table c enc w xs) (replicate (suc (length xs) * w) 0)) (zero-mul w)
      ∙ ap₂ ◌++◌ (ap (λ (k : ℕ). replicate k 0) f ∙ sym (replicate-append-replicate w (length xs * w) 0))
      (ap (λ (k : ℕ). drop k (enc x ++ table c enc w xs)) e ∙ drop-append-add (enc x) (table c enc w xs) (length xs * w))
      ∙ append_assoc (replicate w 0) (replicate (length xs * w) 0) (drop (length xs * w) (table c enc w xs))
      ∙ ap (λ (l : List ℕ). replicate w 0 ++ l)
      (ap (λ (k : ℕ). put k (length xs * w) (table c enc w xs) (replicate (length xs * w) 0)) (sym (zero-mul w)) ∙ clear_all c xs (le_of_suc-le-suc h))

  -- the elements' slots from the j-th on cleared are the first j elements
  pub keep_table : (c j : ℕ) (xs : List A) → j ≤ length xs → length xs ≤ c
      → put (j * w) ((length xs - j) * w) (table c enc w xs) (replicate ((length xs - j) * w) 0) ≡ table c enc w (take j xs)
  unfolding table
  keep_table c zero xs h g =
      let m : length xs - 0 ≡ length xs = omega arith in
      ap (λ (d : ℕ). put (0 * w) (d * w) (table c enc w xs) (replicate (d * w) 0)) m ∙ clear_all c xs g
  keep_table c (suc j) [] h g = absurd (not-suc-le-zero h)
  keep_table zero (suc j) (x ∷ xs) h g = absurd (not-suc-le-zero g)
  keep_table (suc c) (suc j) (x ∷ xs) h g =
      let e : suc j * w ≡ length (enc x) + j * w = let n : length (enc x) ≡ w = wide x in rw suc-mul (omega arith) in
      let d : ℕ = (length xs - j) * w in
      let m : suc (length xs) - suc j ≡ length xs - j = omega arith in
      ap (λ (d : ℕ). put (suc j * w) (d * w) (enc x ++ table c enc w xs) (replicate (d * w) 0)) m
      ∙ ap (λ (k : ℕ). put k d (enc x ++ table c enc w xs) (replicate d 0)) e
      ∙ put_right (j * w) d (enc x) (table c enc w xs) (replicate d 0)
      ∙ ap (λ (l : List ℕ). enc x ++ l) (keep_table c j xs (le_of_suc-le-suc h) (le_of_suc-le-suc g))

-- a list whose slots are the forms, and then zeros, is the table
pub table_ext : {A : Type 0} (w : ℕ) (enc : A → List ℕ) (c : ℕ) (xs : List A) (d : A) (r : List ℕ) → length r ≡ c * w
    → ((i : ℕ) → i < c → i < length xs → cut (i * w) w r ≡ enc (get_or xs i d))
    → ((i : ℕ) → i < c → length xs ≤ i → cut (i * w) w r ≡ replicate w 0) → table c enc w xs ≡ r
unfolding table
table_ext w enc zero xs d [] e h g = refl
table_ext w enc zero xs d (b ∷ r) e h g = absurd (let f : zero * w ≡ 0 = zero-mul w in omega arith)
table_ext w enc (suc c) [] d r e h g =
    joined w r (replicate w 0) (table c enc w []) (g 0 (omega arith) (omega arith))
    (table_ext w enc c [] d (drop w r) (rest w r c e)
    (λ i p q. absurd (not-suc-le-zero q)) (λ i p q. later w r i ∙ g (suc i) (omega arith) (omega arith)))
table_ext w enc (suc c) (x ∷ xs) d r e h g =
    joined w r (enc x) (table c enc w xs) (h 0 (omega arith) (omega arith))
    (table_ext w enc c xs d (drop w r) (rest w r c e)
    (λ i p q. later w r i ∙ h (suc i) (omega arith) (omega arith))
    (λ i p q. later w r i ∙ g (suc i) (omega arith) (omega arith)))
