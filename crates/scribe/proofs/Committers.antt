-- The committers are written one after the other: one more, and what is left. Assumes nothing.
use mathlib.Core.Path.{◌≡◌, refl, sym, ap, ap₂, ◌∙◌}
use mathlib.Core.List.{List, [], ◌∷◌, ◌++◌}
use Prim.Native.Nat.{ℕ, ◌+◌, ◌-◌, ◌*◌, ◌<◌, ◌≤◌}
use native.Mathlib.Nat.{sub-zero}
use native.Mathlib.Omega.{arith}
use lib.ListN.{length, take, drop, get_or, length-append, length-drop}
use lib.Seq.{length-take-le}
use Rattle.word.specs.Cut.{put}
use Rattle.settings.specs.Format.{listed}
use Rattle.scribe.specs.Writing.{content_from, content_length, Slot}
use Rattle.settings.proofs.Splits.{to_end}
use Rattle.settings.proofs.Committers.{listed_length}
use Rattle.scribe.proofs.Given.{first, none_left, no_content, length_given, name_given, others_given, content_more, length_content}
use Rattle.scribe.proofs.Written.{Far, far_start, far_more, far_end, far_length}

-- none is given
pub none_put : (n l s slot : List ℕ) → Slot n l s slot → length n ≡ 0 → slot ≡ content_from n l s
none_put [] l s slot h e =
    let z : length s ≡ 0 = ap length (none_left l s h.given) in
    let k : length slot ≡ 3 * 0 + length s = h.sized in
    empty slot (omega arith) ∙ no_content [] l s refl
  where
    empty : (r : List ℕ) → length r ≡ 0 → r ≡ []
    empty [] e = refl
    empty (x ∷ r) e = absurd (omega arith)
none_put (x ∷ n) l s slot h e = absurd (omega arith)

-- what the code leans on where one is given
pub record Room (n l s slot : List ℕ) : Type 0 where
  pub sized : 0 < length l
  pub name : get_or l 0 0 ≤ length s
  pub room : 3 + get_or l 0 0 ≤ length slot

-- one is given: there is room for it
pub room_for : (n l s slot : List ℕ) → Slot n l s slot → (length n ≡ 0 → ⊥) → Room n l s slot
room_for n l s slot h p =
    let d : length l ≡ 0 → ⊥ = length_given n l s p h.given in
    let k : get_or l 0 0 ≤ length s = name_given n l s p h.given in
    let e : length slot ≡ 3 * length n + length s = h.sized in
    record { sized = omega arith; name = k; room = omega arith }

-- the others are fewer
pub fewer : (n : List ℕ) (t : ℕ) → length n ≡ t → (length n ≡ 0 → ⊥) → length (take (length n - 1) (drop 1 n)) < t
fewer n t e p = rw (to_end 1 n, length-drop) (omega arith)

module _ (n l s slot : List ℕ) (h : Slot n l s slot) (p : length n ≡ 0 → ⊥) where
  -- the bytes of the others are what is left of the slot
  others_length : content_length (drop 1 n) (drop (get_or l 0 0) s) + (3 + get_or l 0 0) ≡ length slot
  others_length =
      let k : get_or l 0 0 ≤ length s = name_given n l s p h.given in
      let e : length slot ≡ 3 * length n + length s = h.sized in
      omega (arith, length-drop 1 n, length-drop (get_or l 0 0) s)

  -- the slot of the others, of a slot that is as long
  pub slot_more : (t : List ℕ) → length t ≡ length slot
      → Slot (take (length n - 1) (drop 1 n)) (take (length l - 1) (drop 1 l)) (take (length s - get_or l 0 0) (drop (get_or l 0 0) s))
      (take (length t - (3 + get_or l 0 0)) (drop (3 + get_or l 0 0) t))
  slot_more t e =
      rw (to_end 1 n, to_end 1 l, to_end (get_or l 0 0) s, to_end (3 + get_or l 0 0) t)
      (record { given = others_given n l s p h.given; sized = rw length-drop (omega (arith, others_length)) })

  -- the first committer and the others make the content
  pub committers_put : (a b : List ℕ)
      → a ≡ listed (record { number = get_or n 0 0; name = take (get_or l 0 0 - 0) (drop 0 s) })
      → b ≡ content_from (take (length n - 1) (drop 1 n)) (take (length l - 1) (drop 1 l)) (take (length s - get_or l 0 0) (drop (get_or l 0 0) s))
      → put (3 + get_or l 0 0) (length (put 0 (3 + get_or l 0 0 - 0) slot a) - (3 + get_or l 0 0)) (put 0 (3 + get_or l 0 0 - 0) slot a) b
      ≡ content_from n l s
  committers_put a b e f =
      far_end f₂ (rw length-append (omega (arith, others_length, long_first, long_others)))
      ∙ ap₂ (λ (x y : List ℕ). x ++ y) is_first is_others
      ∙ sym (content_more n l s p h.given)
    where
      is_first : a ≡ listed (first n l s)
      is_first = rw sub-zero at e

      is_others : b ≡ content_from (drop 1 n) (drop 1 l) (drop (get_or l 0 0) s)
      is_others = rw (to_end 1 n, to_end 1 l, to_end (get_or l 0 0) s) at f

      long_first : length a ≡ 3 + get_or l 0 0
      long_first =
          ap length is_first
          ∙ listed_length (first n l s)
          ∙ ap (λ (i : ℕ). 3 + i) (length-take-le (get_or l 0 0) s (name_given n l s p h.given))

      long_others : length b ≡ content_length (drop 1 n) (drop (get_or l 0 0) s)
      long_others = ap length is_others ∙ length_content (drop 1 n) (drop 1 l) (drop (get_or l 0 0) s) (others_given n l s p h.given)

      f₁ : Far a (put 0 (3 + get_or l 0 0 - 0) slot a) (length slot)
      f₁ =
          far_more 0 (3 + get_or l 0 0 - 0) a (put 0 (3 + get_or l 0 0 - 0) slot a) (far_start slot) refl refl (omega (arith, long_first))
          (omega (arith, others_length))

      f₂ : Far (a ++ b)
          (put (3 + get_or l 0 0) (length (put 0 (3 + get_or l 0 0 - 0) slot a) - (3 + get_or l 0 0)) (put 0 (3 + get_or l 0 0 - 0) slot a) b) (length slot)
      f₂ =
          let g : length (put 0 (3 + get_or l 0 0 - 0) slot a) ≡ length slot = far_length f₁ in
          far_more (3 + get_or l 0 0) (length (put 0 (3 + get_or l 0 0 - 0) slot a) - (3 + get_or l 0 0)) b
          (put (3 + get_or l 0 0) (length (put 0 (3 + get_or l 0 0 - 0) slot a) - (3 + get_or l 0 0)) (put 0 (3 + get_or l 0 0 - 0) slot a) b)
          f₁ refl long_first (omega (arith, others_length, long_others)) (omega (arith, others_length))
