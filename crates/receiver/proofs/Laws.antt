-- What each way out of the receiver's functions leaves. Assumes nothing.
use mathlib.Core.Path.{◌≡◌, refl, sym, ap, ap₂, ◌∙◌}
use mathlib.Core.Bool.{Bool, true, false, false≢true}
use mathlib.Core.List.{List, ◌++◌, append_assoc}
use Prim.Native.Nat.{ℕ, ◌+◌, ◌-◌, ◌≤◌, ◌<◌}
use native.Mathlib.Omega.{arith}
use lib.ListN.{length, drop, get_or, replicate, length-append, length-drop, length-replicate, replicate-append-replicate}
use lib.Seq.{drop_at, take_all}
use mir.Syntax.{w8}
use mir.Val.{Fits}
use borrow.Author.Tests.{ne_eqb}
use Rattle.word.specs.Be.{cut, val, be_on, be}
use Rattle.word.specs.Codec.{zeros}
use Rattle.word.specs.Cut.{put}
use Rattle.word.proofs.Be.{length_be, bytes_all}
use Rattle.word.proofs.Cut.{put_right}
use Rattle.receiver.specs.Receiver.{capacity, receiver_size, holding, fresh, held, is_receiver, Good}
use Rattle.receiver.proofs.Image.{good_image, good_room, good_count, good_zeros, good_bytes}

-- ---- whether it is good

pub other_size : (b : List ℕ) → (length b ≡ receiver_size → ⊥) → false ≡ is_receiver b
unfolding is_receiver
other_size b h = rw (ne_eqb (length b) receiver_size h)

-- a test that every good one passes refuses no good one
fails : (b : List ℕ) → (is_receiver b ≡ true → ⊥) → false ≡ is_receiver b
fails b h = go (is_receiver b) refl
  where
    go : (t : Bool) → is_receiver b ≡ t → false ≡ t
    go false e = refl
    go true e = absurd (h e)

pub count_too_large : (b : List ℕ) (n : ℕ) → n ≡ val (cut 0 2 b) → capacity < n → false ≡ is_receiver b
count_too_large b n e h =
    fails b λ good.
    let c : n ≡ length (held b) = e ∙ good_count b good in
    let l : length (held b) ≤ capacity = good_room b good in
    omega arith

pub zeros_decide : (b : List ℕ) → ((i : ℕ) → Fits w8 (get_or b i 0)) → (n : ℕ) (t : Bool) → length b ≡ receiver_size → n ≡ val (cut 0 2 b) → n ≤ capacity
    → t ≡ zeros (cut (2 + n) (length b - (2 + n)) b) → t ≡ is_receiver b
zeros_decide b bytes n t size e fits z = go t (z ∙ ap zeros whole ∙ ap (λ (n : ℕ). zeros (drop (2 + n) b)) e)
  where
    whole : cut (2 + n) (length b - (2 + n)) b ≡ drop (2 + n) b
    whole = take_all (length b - (2 + n)) (drop (2 + n) b) (rw length-drop (omega arith))

    go : (t : Bool) → t ≡ zeros (drop (2 + val (cut 0 2 b)) b) → t ≡ is_receiver b
    go true z = sym (good_bytes b (bytes_all b (λ i. (bytes i).fits)) size (rw (← e) fits) (sym z))
    go false z = fails b λ good. false≢true (z ∙ good_zeros b good)

-- ---- a fragment behind what is held

module _ (b f : List ℕ) (good : Good b) (fits : length (held b) + length f ≤ capacity) where
  abbrev xs : List ℕ
  xs = held b

  abbrev behind : List ℕ
  behind = replicate (capacity - length (xs ++ f)) 0

  -- the fragment takes the place of as many zeros
  fewer : drop (length f) (replicate (capacity - length xs) 0) ≡ behind
  fewer =
      let l : capacity - length xs ≡ length f + (capacity - length (xs ++ f)) = rw length-append (omega arith) in
      ap (λ (n : ℕ). drop (length f) (replicate n 0)) l
      ∙ ap (drop (length f)) (sym (replicate-append-replicate (length f) (capacity - length (xs ++ f)) 0))
      ∙ drop_at (replicate (length f) 0) behind (length f) (length-replicate (length f) 0)

  copied : put (2 + length xs) (length f) b f ≡ be 2 (length xs) ++ (xs ++ (f ++ behind))
  unfolding holding
  copied =
      let zs : List ℕ = replicate (capacity - length xs) 0 in
      let two : 2 ≡ length (be 2 (length xs)) = sym (length_be 2 (length xs)) in
      let none : length xs ≡ length xs + 0 = omega arith in
      ap (λ (l : List ℕ). put (2 + length xs) (length f) l f) (good_image b good.is)
      ∙ ap (λ (n : ℕ). put (n + length xs) (length f) (be 2 (length xs) ++ (xs ++ zs)) f) two
      ∙ put_right (length xs) (length f) (be 2 (length xs)) (xs ++ zs) f
      ∙ ap (λ (n : ℕ). be 2 (length xs) ++ put n (length f) (xs ++ zs) f) none
      ∙ ap (λ (l : List ℕ). be 2 (length xs) ++ l) (put_right 0 (length f) xs zs f)
      ∙ ap (λ (l : List ℕ). be 2 (length xs) ++ (xs ++ (f ++ l))) fewer

  added : put 0 2 (put (2 + length xs) (length f) b f) (be 2 (length xs + length f)) ≡ holding (xs ++ f)
  unfolding holding
  added =
      ap (λ (l : List ℕ). be 2 (length xs + length f) ++ drop 2 l) copied
      ∙ ap (λ (l : List ℕ). be 2 (length xs + length f) ++ l) (drop_at (be 2 (length xs)) (xs ++ (f ++ behind)) 2 (length_be 2 (length xs)))
      ∙ ap₂ (λ (n : ℕ) (l : List ℕ). be 2 n ++ l) (sym (length-append xs f)) (sym (append_assoc xs f behind))

-- by the count that was read, and the part that was lent
pub add_done : (b f x b' : List ℕ) (n : ℕ) → Good b → length (held b) + length f ≤ capacity → n ≡ val (cut 0 2 b) → x ≡ f
    → b' ≡ put 0 2 (put (2 + n) (2 + n + length f - (2 + n)) b x) (be 2 (n + length f)) → b' ≡ holding (held b ++ f)
add_done b f x b' n good fits e i h =
    let c : n ≡ length (held b) = e ∙ good.count in
    let w : 2 + n + length f - (2 + n) ≡ length f = omega arith in
    h
    ∙ ap₂ (λ (k : ℕ) (l : List ℕ). put 0 2 (put (2 + n) k b l) (be 2 (n + length f))) w i
    ∙ ap (λ (n : ℕ). put 0 2 (put (2 + n) (length f) b f) (be 2 (n + length f))) c
    ∙ added b f good fits

-- ---- what is held, as a part; and nothing

pub held_part : (b : List ℕ) (n : ℕ) → n ≡ val (cut 0 2 b) → cut 2 (2 + n - 2) b ≡ held b
unfolding held
held_part b n e =
    let w : 2 + n - 2 ≡ n = omega arith in
    ap (λ (k : ℕ). cut 2 k b) (w ∙ e)

pub fresh_zeros : (b b' : List ℕ) → length b ≡ receiver_size → b' ≡ replicate (length b) 0 → b' ≡ fresh
unfolding holding be be_on
fresh_zeros b b' l e = e ∙ ap (λ (n : ℕ). replicate n 0) l
