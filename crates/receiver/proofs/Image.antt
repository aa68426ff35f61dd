-- The image of a receiver: how long it is, that what it holds is seen in it, and that good bytes are just the images. Assumes nothing.
use mathlib.Core.Path.{◌≡◌, refl, sym, ap, ap₂, ◌∙◌}
use mathlib.Core.Bool.{true}
use mathlib.Core.List.{List, ◌++◌}
use Prim.Native.Nat.{ℕ, ◌+◌, ◌-◌, ◌≤◌, ◌<◌}
use native.Mathlib.Omega.{arith}
use lib.ListN.{length, take, drop, replicate, length-append, length-take, length-drop, length-replicate, take-append-drop}
use lib.Seq.{take_at, drop_at, drop-drop, length-take-le}
use lib.Dec.{eqb}
use borrow.Author.Tests.{eqb-true, eq-eqb}
use Rattle.word.specs.Be.{Bytes, cut, val, be}
use Rattle.word.specs.Codec.{zeros}
use Rattle.word.specs.Tests.{same_list}
use Rattle.word.proofs.Be.{length_be, val_be}
use Rattle.word.proofs.Fields.{be_cut}
use Rattle.word.proofs.Slots.{zeros_replicate, zeros_true}
use Rattle.word.proofs.Tests.{both_true, true_both, same_list_true, same_list_refl}
use Rattle.receiver.specs.Receiver.{capacity, receiver_size, holding, held, is_receiver, Good}

-- ---- an image

module _ (xs : List ℕ) where
  abbrev pub rest : List ℕ
  rest = xs ++ replicate (capacity - length xs) 0

  pub bytes_behind : drop 2 (holding xs) ≡ rest
  unfolding holding
  bytes_behind = drop_at (be 2 (length xs)) rest 2 (length_be 2 (length xs))

  module _ (h : length xs ≤ capacity) where
    pub length_holding : length (holding xs) ≡ receiver_size
    unfolding holding
    length_holding = rw (length-append, length-append, length_be, length-replicate) (omega arith)

    pub counted : val (cut 0 2 (holding xs)) ≡ length xs
    unfolding holding
    counted =
        ap val (take_at (be 2 (length xs)) rest 2 (length_be 2 (length xs)))
        ∙ val_be 2 (length xs) (let l : length xs < 65536 = omega arith in l)

    pub held_holding : held (holding xs) ≡ xs
    unfolding held
    held_holding =
        ap₂ (λ (k : ℕ) (l : List ℕ). take k l) counted bytes_behind ∙ take_at xs (replicate (capacity - length xs) 0) (length xs) refl

    pub is_receiver_lem : is_receiver (holding xs) ≡ true
    unfolding is_receiver
    is_receiver_lem =
        true_both (eq-eqb (length (holding xs)) receiver_size length_holding)
        (ap (λ (l : List ℕ). same_list (holding xs) (holding l)) held_holding ∙ same_list_refl (holding xs))

    pub zeros_behind : zeros (drop (2 + length xs) (holding xs)) ≡ true
    zeros_behind =
        ap zeros
        (sym (drop-drop (length xs) 2 (holding xs))
        ∙ ap (drop (length xs)) bytes_behind
        ∙ drop_at xs (replicate (capacity - length xs) 0) (length xs) refl)
        ∙ zeros_replicate (capacity - length xs)

-- ---- good bytes are an image, of what they hold

module _ (b : List ℕ) (good : is_receiver b ≡ true) where
  pub good_size : length b ≡ receiver_size
  unfolding is_receiver
  good_size = eqb-true (length b) receiver_size (both_true (eqb (length b) receiver_size) (same_list b (holding (held b))) good).0

  pub good_image : b ≡ holding (held b)
  unfolding is_receiver
  good_image = same_list_true b (holding (held b)) (both_true (eqb (length b) receiver_size) (same_list b (holding (held b))) good).1

  pub good_room : length (held b) ≤ capacity
  unfolding held
  good_room =
      let l : length b ≡ receiver_size = good_size in
      rw (length-take, length-drop) (omega arith)

  pub good_count : val (cut 0 2 b) ≡ length (held b)
  good_count = ap (λ (l : List ℕ). val (cut 0 2 l)) good_image ∙ counted (held b) good_room

  pub is_good : Good b
  is_good = record { is = good; size = good_size; count = good_count; room = good_room }

  pub good_zeros : zeros (drop (2 + val (cut 0 2 b)) b) ≡ true
  good_zeros =
      ap (λ (k : ℕ). zeros (drop (2 + k) b)) good_count
      ∙ ap (λ (l : List ℕ). zeros (drop (2 + length (held b)) l)) good_image
      ∙ zeros_behind (held b) good_room

-- ---- and bytes of its size with a count that fits and zeros behind what they hold are good

module _ (b : List ℕ) (bytes : Bytes b) (size : length b ≡ receiver_size) (fits : val (cut 0 2 b) ≤ capacity)
    (none : zeros (drop (2 + val (cut 0 2 b)) b) ≡ true) where
  count : ℕ
  count = val (cut 0 2 b)

  length_held : length (held b) ≡ count
  unfolding held count
  length_held = length-take-le count (drop 2 b) (rw length-drop (omega arith))

  behind : drop count (drop 2 b) ≡ replicate (capacity - count) 0
  unfolding count
  behind =
      let l : length (drop (2 + count) b) ≡ capacity - count = rw length-drop (omega arith) in
      drop-drop count 2 b
      ∙ zeros_true (drop (2 + count) b) none
      ∙ ap (λ (n : ℕ). replicate n 0) l

  image_back : holding (held b) ≡ b
  unfolding holding held count
  image_back =
      ap (λ (n : ℕ). be 2 n ++ (take count (drop 2 b) ++ replicate (capacity - n) 0)) length_held
      ∙ ap₂ (λ (p q : List ℕ). p ++ (take count (drop 2 b) ++ q)) (be_cut 0 2 b bytes (omega arith)) (sym behind)
      ∙ ap (λ (q : List ℕ). take 2 b ++ q) (take-append-drop count (drop 2 b))
      ∙ take-append-drop 2 b

  pub good_bytes : is_receiver b ≡ true
  unfolding is_receiver
  good_bytes =
      true_both (eq-eqb (length b) receiver_size size) (ap (same_list b) image_back ∙ same_list_refl b)
