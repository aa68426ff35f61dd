-- What the places of a row are, and what the loop over places keeps. Assumes nothing.
use Rattle.std.specs.Prelude.{Option, Some, None}
use mathlib.Core.Path.{◌≡◌, refl, sym, ap, ap₂, ◌∙◌}
use mathlib.Core.List.{List, [], ◌∷◌, ◌++◌, append_assoc, append-nil}
use Prim.Native.Nat.{ℕ, ◌+◌, ◌*◌, ◌<◌, ◌≤◌}
use native.Mathlib.Numerals.{add-one}
use native.Mathlib.Omega.{arith}
use lib.ListN.{length, take, drop, get_or, length-append}
use lib.Seq.{take_at, take-suc, take_all, length-take-le}
use Rattle.word.specs.Be.{be}
use Rattle.word.specs.Cut.{put}
use Rattle.word.proofs.Be.{length_be}
use Rattle.target.specs.declared.Found.{Found}
use Rattle.target.specs.Fields.{place_number}
use Rattle.transaction.specs.declared.Edit.{Edit}
use Rattle.model.specs.declared.Refusal.{Refusal}
use Rattle.model.specs.Basic.{collect}
use Rattle.model.specs.Numbers.{parent_places, row_places, refusal_answer}
use Rattle.answers.specs.declared.Verdict.{Verdict}
use Rattle.slots.specs.Row.{row_numbers, parent_flag, parent_place}
use Rattle.answers.specs.Answers.{record_of, answer_by}

-- ---- a row answers the numbers of its slot

parents : (p : Option ℕ) → parent_places p ≡ parent_flag p ∷ parent_place p ∷ []
parents None = refl
parents (Some j) = refl

-- thirteen of them, and behind them the place of the existing value
used : List ℕ → ℕ → List ℕ
used p k =
    get_or p 0 0 ∷ get_or p 1 0 ∷ get_or p 2 0 ∷ get_or p 3 0 ∷ get_or p 4 0 ∷ get_or p 5 0 ∷ get_or p 6 0 ∷ get_or p 7 0 ∷ get_or p 8 0 ∷ get_or p 9 0
    ∷ get_or p 10 0 ∷ get_or p 11 0 ∷ get_or p 12 0 ∷ k ∷ []

pub row_used : (r : Edit) (x : Found) (p : List ℕ) (k : ℕ) → p ≡ row_numbers r → k ≡ place_number x
    → get_or p 0 0 ∷ get_or p 1 0 ∷ get_or p 2 0 ∷ get_or p 3 0 ∷ get_or p 4 0 ∷ get_or p 5 0 ∷ get_or p 6 0 ∷ get_or p 7 0 ∷ get_or p 8 0 ∷ get_or p 9 0
    ∷ get_or p 10 0 ∷ get_or p 11 0 ∷ get_or p 12 0 ∷ k ∷ [] ≡ row_places r ++ (place_number x ∷ [])
unfolding used
row_used r x p k ep ek = ap₂ used ep ek ∙ simp (parents r.parent_index)

-- ---- the loop over places: the first i stand in the first i * 8 bytes

collect_append : (f : ℕ → List ℕ) (xs ys : List ℕ) → collect f (xs ++ ys) ≡ collect f xs ++ collect f ys
collect_append f [] ys = refl
collect_append f (x ∷ xs) ys = simp (collect_append f xs ys, append_assoc)

module _ (s ps : List ℕ) (i : ℕ) (l : length s ≡ 128) (m : length ps ≡ 16) (e : take (i * 8) s ≡ collect (be 8) (take i ps)) where
  one_more : i < 16 → take (i * 8) s ++ be 8 (get_or ps i 0) ≡ collect (be 8) (take (i + 1) ps)
  one_more h =
      ap (λ (p : List ℕ). p ++ be 8 (get_or ps i 0)) e
      ∙ ap (λ (p : List ℕ). collect (be 8) (take i ps) ++ p) (sym (append-nil (be 8 (get_or ps i 0))))
      ∙ sym (collect_append (be 8) (take i ps) (get_or ps i 0 ∷ []))
      ∙ ap (collect (be 8)) (sym (take-suc ps i 0 (omega arith)))
      ∙ ap (λ (n : ℕ). collect (be 8) (take n ps)) (sym (add-one i))

  pub turn : (t : List ℕ) → i < 16 → t ≡ put (i * 8) 8 s (be 8 (get_or ps i 0)) → take ((i + 1) * 8) t ≡ collect (be 8) (take (i + 1) ps)
  turn t h w =
      let v : List ℕ = be 8 (get_or ps i 0) in
      let n : length v ≡ 8 = length_be 8 (get_or ps i 0) in
      let b : length (take (i * 8) s) ≡ i * 8 = length-take-le (i * 8) s (omega arith) in
      let k : length (take (i * 8) s ++ v) ≡ (i + 1) * 8 = rw length-append (omega arith) in
      ap (take ((i + 1) * 8)) (w ∙ sym (append_assoc (take (i * 8) s) v (drop 8 (drop (i * 8) s))))
      ∙ take_at (take (i * 8) s ++ v) (drop 8 (drop (i * 8) s)) ((i + 1) * 8) k
      ∙ one_more h

  pub end : 16 ≤ i → s ≡ record_of ps
  unfolding record_of
  end h = sym (take_all (i * 8) s (omega arith)) ∙ e ∙ ap (collect (be 8)) (take_all i ps (omega arith))

-- ---- a refusal by its case

pub told : (x y : Refusal) (v : Verdict) → x ≡ y → answer_by v ≡ refusal_answer y → answer_by v ≡ refusal_answer x
told x y v e a = a ∙ ap refusal_answer (sym e)
