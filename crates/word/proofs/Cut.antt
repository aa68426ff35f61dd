-- Parts read and written: in a list, in a list of two pieces, and in one of sections. Assumes nothing.
use mathlib.Core.Path.{◌≡◌, refl, sym, ap, ◌∙◌}
use mathlib.Core.List.{List, [], ◌∷◌, ◌++◌, append_assoc, append-nil, map}
use Prim.Native.Nat.{ℕ, zero, suc, ◌+◌, ◌-◌, ◌<◌, ◌≤◌}
use native.Mathlib.Nat.{add_assoc, add-zero, zero-add, sub-zero, zero-sub, suc-sub-suc}
use native.Mathlib.Nat.{le_of_eq, not-suc-le-zero, le_of_suc-le-suc}
use native.Mathlib.Omega.{arith}
use lib.ListN.{length, take, drop, get_or, set, length-append, length-drop, length-map, drop_of_length-le}
use lib.Seq.{take-append-le, drop-append-le, take-append-add, drop-append-add, length-take-le}
use lib.Seq.{take-add, take-take, take-nil, take_all, drop-drop}
use Rattle.word.specs.Be.{cut}
use Rattle.word.specs.Cut.{put, flat, start, total, cuts}

pub length_cut : (a k : ℕ) (r : List ℕ) → a + k ≤ length r → length (cut a k r) ≡ k
length_cut a k r h = length-take-le k (drop a r) (rw length-drop (omega arith))

pub length_put : (a k : ℕ) (r ys : List ℕ) → a + k ≤ length r → length ys ≡ k → length (put a k r ys) ≡ length r
length_put a k r ys h e =
    simp (length-append, length-drop) (let t : length (take a r) ≡ a = length-take-le a r (omega arith) in omega arith)

-- a part of a part
pub cut_cut : (a k b n : ℕ) (r : List ℕ) → b + n ≤ k → cut b n (cut a k r) ≡ cut (a + b) n r
cut_cut a k b n r h =
    ap (take n) (drop_take b k (drop a r))
    ∙ take-take n (k - b) (drop b (drop a r)) (omega arith)
    ∙ ap (take n) (drop-drop b a r)
  where
    drop_take : (b k : ℕ) (l : List ℕ) → drop b (take k l) ≡ take (k - b) (drop b l)
    drop_take zero k l = ap (λ (n : ℕ). take n l) (sym (sub-zero k))
    drop_take (suc b) zero l = rw zero-sub
    drop_take (suc b) (suc k) [] = sym (take-nil (suc k - suc b))
    drop_take (suc b) (suc k) (x ∷ l) = rw suc-sub-suc (drop_take b k l)

-- ---- two pieces

pub cut_left : (a k : ℕ) (xs ys : List ℕ) → a + k ≤ length xs → cut a k (xs ++ ys) ≡ cut a k xs
cut_left a k xs ys h =
    let p : a ≤ length xs = omega arith in
    let q : k ≤ length (drop a xs) = rw length-drop (omega arith) in
    rw (drop-append-le a xs ys p) (take-append-le k (drop a xs) ys q)

pub cut_right : (a k : ℕ) (xs ys : List ℕ) → cut (length xs + a) k (xs ++ ys) ≡ cut a k ys
cut_right a k xs ys = ap (take k) (drop-append-add xs ys a)

pub put_left : (a k : ℕ) (xs ys v : List ℕ) → a + k ≤ length xs → put a k (xs ++ ys) v ≡ put a k xs v ++ ys
put_left a k xs ys v h =
    let p : a ≤ length xs = omega arith in
    let q : k ≤ length (drop a xs) = rw length-drop (omega arith) in
    rw (drop-append-le a xs ys p, take-append-le a xs ys p, drop-append-le k (drop a xs) ys q) (simp append_assoc)

pub put_right : (a k : ℕ) (xs ys v : List ℕ) → put (length xs + a) k (xs ++ ys) v ≡ xs ++ put a k ys v
put_right a k xs ys v = rw (drop-append-add xs ys a, take-append-add xs ys a) (simp append_assoc)

-- ---- sections

-- the parts that follow one another, put together, are the part that they make
pub flat_cuts : (a : ℕ) (ns r : List ℕ) → flat (cuts a ns r) ≡ cut a (total ns) r
unfolding flat cuts
flat_cuts a [] r = refl
flat_cuts a (n ∷ ns) r =
    ap (λ (l : List ℕ). cut a n r ++ l) (flat_cuts (a + n) ns r ∙ ap (take (total ns)) (sym (drop-drop n a r)))
    ∙ sym (take-add n (total ns) (drop a r))

pub length_flat : (ss : List (List ℕ)) → length (flat ss) ≡ total (map length ss)
unfolding flat
length_flat [] = refl
length_flat (s ∷ ss) = rw length-append (ap (λ (n : ℕ). length s + n) (length_flat ss))

pub cut_flat : (i a k : ℕ) (ss : List (List ℕ)) → i < length ss → a + k ≤ length (get_or ss i [])
    → cut (start i (map length ss) + a) k (flat ss) ≡ cut a k (get_or ss i [])
unfolding flat
cut_flat i a k [] h g = absurd (not-suc-le-zero h)
cut_flat zero a k (s ∷ ss) h g = rw (zero-add a) (cut_left a k s (flat ss) g)
cut_flat (suc i) a k (s ∷ ss) h g =
    rw add_assoc (cut_right (start i (map length ss) + a) k s (flat ss))
    ∙ cut_flat i a k ss (le_of_suc-le-suc h) g

pub put_flat : (i a k : ℕ) (ss : List (List ℕ)) (v : List ℕ) → i < length ss → a + k ≤ length (get_or ss i [])
    → put (start i (map length ss) + a) k (flat ss) v ≡ flat (set ss i (put a k (get_or ss i []) v))
unfolding flat
put_flat i a k [] v h g = absurd (not-suc-le-zero h)
put_flat zero a k (s ∷ ss) v h g = rw (zero-add a) (put_left a k s (flat ss) v g)
put_flat (suc i) a k (s ∷ ss) v h g =
    rw add_assoc (put_right (start i (map length ss) + a) k s (flat ss) v)
    ∙ ap (λ (l : List ℕ). s ++ l) (put_flat i a k ss v (le_of_suc-le-suc h) g)

-- ---- the same by the sections' lengths

at_map : (ss : List (List ℕ)) (i : ℕ) → get_or (map length ss) i 0 ≡ length (get_or ss i [])
at_map [] i = refl
at_map (s ∷ ss) zero = refl
at_map (s ∷ ss) (suc i) = at_map ss i

module _ (ss : List (List ℕ)) (ns : List ℕ) (sized : map length ss ≡ ns) where
  room : (i : ℕ) → get_or ns i 0 ≡ length (get_or ss i [])
  room i = ap (λ (l : List ℕ). get_or l i 0) (sym sized) ∙ at_map ss i

  as_many : length ns ≡ length ss
  as_many = ap length (sym sized) ∙ length-map ss length

  pub length_sized : length (flat ss) ≡ total ns
  length_sized = length_flat ss ∙ ap total sized

  -- a part of section i read, and all of it
  pub cut_at : (i a k : ℕ) → i < length ns → a + k ≤ get_or ns i 0 → cut (start i ns + a) k (flat ss) ≡ cut a k (get_or ss i [])
  cut_at i a k h g =
      let e : length ns ≡ length ss = as_many in
      let f : get_or ns i 0 ≡ length (get_or ss i []) = room i in
      ap (λ (l : List ℕ). cut (start i l + a) k (flat ss)) (sym sized) ∙ cut_flat i a k ss (omega arith) (omega arith)

  pub cut_whole : (i : ℕ) → i < length ns → cut (start i ns) (get_or ns i 0) (flat ss) ≡ get_or ss i []
  cut_whole i h =
      ap (λ (n : ℕ). cut n (get_or ns i 0) (flat ss)) (sym (add-zero (start i ns)))
      ∙ cut_at i 0 (get_or ns i 0) h (omega arith)
      ∙ take_all (get_or ns i 0) (get_or ss i []) (let f : get_or ns i 0 ≡ length (get_or ss i []) = room i in omega arith)

  -- a part of section i written, and all of it
  pub put_at : (i a k : ℕ) (v : List ℕ) → i < length ns → a + k ≤ get_or ns i 0
      → put (start i ns + a) k (flat ss) v ≡ flat (set ss i (put a k (get_or ss i []) v))
  put_at i a k v h g =
      let e : length ns ≡ length ss = as_many in
      let f : get_or ns i 0 ≡ length (get_or ss i []) = room i in
      ap (λ (l : List ℕ). put (start i l + a) k (flat ss) v) (sym sized) ∙ put_flat i a k ss v (omega arith) (omega arith)

  pub put_whole : (i : ℕ) (v : List ℕ) → i < length ns → put (start i ns) (get_or ns i 0) (flat ss) v ≡ flat (set ss i v)
  put_whole i v h =
      ap (λ (n : ℕ). put n (get_or ns i 0) (flat ss) v) (sym (add-zero (start i ns)))
      ∙ put_at i 0 (get_or ns i 0) v h (omega arith)
      ∙ ap (λ (l : List ℕ). flat (set ss i l))
      (ap (λ (l : List ℕ). v ++ l) (drop_of_length-le (get_or ss i []) (le_of_eq (sym (room i)))) ∙ append-nil v)
