-- Laws of parts, tables, texts and zeros that writing a region rests on; none knows of the layout. Assumes nothing.
use mathlib.Core.Path.{◌≡◌, refl, sym, ap, ap₂, ◌∙◌}
use mathlib.Core.List.{List, [], ◌∷◌, ◌++◌, append_assoc, map}
use Prim.Native.Nat.{ℕ, zero, suc, ◌+◌, ◌-◌, ◌≤◌}
use native.Mathlib.Numerals.{add-one}
use native.Mathlib.Omega.{arith}
use lib.ListN.{length, set, take, drop, replicate, length-append, length-replicate, replicate-append-replicate, take-append-drop}
use lib.Seq.{drop_at, set_at, length-take-le}
use Rattle.word.specs.Be.{cut}
use Rattle.word.specs.Cut.{put, flat, total}
use Rattle.word.specs.Table.{table}
use Rattle.word.specs.Text.{enc_text}
use Rattle.word.proofs.Cut.{put_right}
use Rattle.word.proofs.Text.{text_form}

-- an element more whose form is zeros leaves the table
pub table_zeros : {A : Type 0} (w : ℕ) (enc : A → List ℕ) (c : ℕ) (xs : List A) (v : A) → enc v ≡ replicate w 0
    → table c enc w (xs ++ (v ∷ [])) ≡ table c enc w xs
unfolding table
table_zeros w enc zero xs v e = refl
table_zeros w enc (suc c) [] v e = ap (λ (l : List ℕ). l ++ table c enc w []) e
table_zeros w enc (suc c) (x ∷ xs) v e = ap (λ (l : List ℕ). enc x ++ l) (table_zeros w enc c xs v e)

-- a text written into a slot of zeros: its length by an index, then its bytes
module _ (w a : ℕ) (xs : List ℕ) (h : length xs ≤ w) where
  text_over : (p q : List ℕ) → length p ≡ a
      → put (a + 1) (length xs) (p ++ (length xs ∷ (replicate w 0 ++ q))) xs ≡ p ++ (enc_text w xs ++ q)
  text_over p q e =
      let n : ℕ = length xs in
      let z : List ℕ = replicate (w - n) 0 ++ q in
      let f : a + 1 ≡ length (p ++ (n ∷ [])) + 0 = rw length-append (omega arith) in
      let m : n + (w - n) ≡ w = omega arith in
      let s : replicate w 0 ++ q ≡ replicate n 0 ++ z =
      ap (λ (k : ℕ). replicate k 0 ++ q) (sym m)
      ∙ ap (λ (l : List ℕ). l ++ q) (sym (replicate-append-replicate n (w - n) 0))
      ∙ append_assoc (replicate n 0) (replicate (w - n) 0) q in
      let t : p ++ (n ∷ (replicate w 0 ++ q)) ≡ (p ++ (n ∷ [])) ++ (replicate n 0 ++ z) =
      ap (λ (l : List ℕ). p ++ (n ∷ l)) s ∙ sym (append_assoc p (n ∷ []) (replicate n 0 ++ z)) in
      ap₂ (λ (i : ℕ) (l : List ℕ). put i n l xs) f t
      ∙ put_right 0 n (p ++ (n ∷ [])) (replicate n 0 ++ z) xs
      ∙ ap (λ (l : List ℕ). (p ++ (n ∷ [])) ++ (xs ++ l)) (drop_at (replicate n 0) z n (length-replicate n 0))
      ∙ append_assoc p (n ∷ []) (xs ++ z)
      ∙ ap (λ (l : List ℕ). p ++ (n ∷ l)) (sym (append_assoc xs (replicate (w - n) 0) q))
      ∙ ap (λ (l : List ℕ). p ++ (l ++ q)) (sym (text_form w xs h))

  pub text_written_lem : (r : List ℕ) → a + (w + 1) ≤ length r → cut a (w + 1) r ≡ replicate (w + 1) 0
      → put (a + 1) (length xs) (set r a (length xs)) xs ≡ put a (w + 1) r (enc_text w xs)
  text_written_lem r g e =
      let p : List ℕ = take a r in
      let q : List ℕ = drop (w + 1) (drop a r) in
      let l : length p ≡ a = length-take-le a r (omega arith) in
      let f : drop a r ≡ 0 ∷ (replicate w 0 ++ q) =
      sym (take-append-drop (w + 1) (drop a r)) ∙ ap (λ (l : List ℕ). l ++ q) (e ∙ ap (λ (k : ℕ). replicate k 0) (add-one w)) in
      let s : r ≡ p ++ (0 ∷ (replicate w 0 ++ q)) = sym (take-append-drop a r) ∙ ap (λ (l : List ℕ). p ++ l) f in
      ap (λ (l : List ℕ). put (a + 1) (length xs) l xs)
      (ap (λ (l : List ℕ). set l a (length xs)) s ∙ set_at p 0 (replicate w 0 ++ q) (length xs) a l)
      ∙ text_over p q l

-- zeros, shut: a section is long
unfoldable pub nils : ℕ → List ℕ
nils n = replicate n 0

pub flat_nils : (ns : List ℕ) → flat (map nils ns) ≡ nils (total ns)
unfolding flat nils
flat_nils [] = refl
flat_nils (n ∷ ns) =
    ap (λ (l : List ℕ). replicate n 0 ++ l) (flat_nils ns) ∙ replicate-append-replicate n (total ns) 0
