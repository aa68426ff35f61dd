-- What is written, part by part, makes the whole. Assumes nothing.
use mathlib.Core.Path.{◌≡◌, refl, sym, ap, ap₂, ◌∙◌}
use mathlib.Core.List.{List, [], ◌∷◌, ◌++◌, append_assoc, append-nil}
use Prim.Native.Nat.{ℕ, ◌+◌, ◌-◌, ◌<◌, ◌≤◌}
use native.Mathlib.Nat.{mod-eq_of_lt}
use native.Mathlib.Omega.{arith}
use lib.ListN.{length, drop, length-append, length-drop}
use lib.Seq.{take-append_seam, drop-append_seam}
use Rattle.word.specs.Be.{be, be_on}
use Rattle.word.specs.Cut.{put}
use Rattle.word.proofs.Be.{length_be}
use Rattle.settings.specs.Format.{entry, listed}
use Rattle.settings.proofs.Entries.{entry_length}
use Rattle.scribe.specs.Writing.{front_bytes}

-- ---- bytes written from the front on

-- of n bytes the first are written, p
pub record Far (p s : List ℕ) (n : ℕ) : Type 0 where
  pub rest : List ℕ
  pub is : s ≡ p ++ rest
  pub left : length p + length rest ≡ n

-- nothing is written yet
pub far_start : (s : List ℕ) → Far [] s (length s)
far_start s = record { rest = s; is = refl; left = omega arith }

-- one part more
pub far_more : {p s : List ℕ} {n : ℕ} (a w : ℕ) (x t : List ℕ) → Far p s n → t ≡ put a w s x → length p ≡ a → length x ≡ w
    → a + w ≤ n → Far (p ++ x) t n
far_more {p} {s} {n} a w x t f is e g h = record {
  rest = drop w f.rest;
  is = is ∙ rw (f.is, ← e, take-append_seam, drop-append_seam) (sym (append_assoc p x (drop w f.rest)));
  left = simp (length-append, length-drop) (let l : length p + length f.rest ≡ n = f.left in omega arith);
}

-- the list stays as long
pub far_length : {p s : List ℕ} {n : ℕ} → Far p s n → length s ≡ n
far_length {p} {s} {n} f = ap length f.is ∙ length-append p f.rest ∙ f.left

-- all is written
pub far_end : {p s : List ℕ} {n : ℕ} → Far p s n → length p ≡ n → s ≡ p
far_end {p} {s} {n} f e = f.is ∙ go f.rest (let l : length p + length f.rest ≡ n = f.left in omega arith)
  where
    go : (r : List ℕ) → length r ≡ 0 → p ++ r ≡ p
    go [] h = append-nil p
    go (x ∷ r) h = absurd (omega arith)

-- ---- a byte, and an entry

-- a number below 256 is its one byte
pub one_byte : (x : ℕ) → x < 256 → be 1 x ≡ x ∷ []
unfolding be be_on
one_byte x h = rw (mod-eq_of_lt h)

-- length, tag and number make an entry
pub number_put : (s₀ s₁ s₂ s₃ : List ℕ) (tag w x : ℕ) → length s₀ ≡ 3 + w → tag < 256 → s₁ ≡ put 0 2 s₀ (be 2 (1 + w))
    → s₂ ≡ put 2 1 s₁ (be 1 tag) → s₃ ≡ put 3 w s₂ (be w x) → s₃ ≡ entry tag (be w x)
unfolding entry
number_put s₀ s₁ s₂ s₃ tag w x n h e₁ e₂ e₃ =
    far_end f₃ (simp (length-append, length_be) (omega arith))
    ∙ append_assoc (be 2 (1 + w)) (be 1 tag) (be w x)
    ∙ ap₂ (λ (k : ℕ) (t : List ℕ). be 2 k ++ (t ++ be w x)) (let l : length (be w x) ≡ w = length_be w x in omega arith) (one_byte tag h)
  where
    f₁ : Far (be 2 (1 + w)) s₁ (length s₀)
    f₁ = far_more 0 2 (be 2 (1 + w)) s₁ (far_start s₀) e₁ refl (length_be 2 (1 + w)) (omega arith)

    f₂ : Far (be 2 (1 + w) ++ be 1 tag) s₂ (length s₀)
    f₂ = far_more 2 1 (be 1 tag) s₂ f₁ e₂ (length_be 2 (1 + w)) (length_be 1 tag) (omega arith)

    f₃ : Far ((be 2 (1 + w) ++ be 1 tag) ++ be w x) s₃ (length s₀)
    f₃ = far_more 3 w (be w x) s₃ f₂ e₃ (simp (length-append, length_be)) (length_be w x) (omega arith)

-- ---- the front

module _ (v rest log mode content : ℕ) where
  -- version, length, log setting, mode, length and tag make the front
  pub front_put : (s₀ s₁ s₂ e₁ e₂ s₃ s₄ : List ℕ) → length s₀ ≡ 14 → s₁ ≡ put 0 1 s₀ (be 1 v) → s₂ ≡ put 1 2 s₁ (be 2 rest)
      → e₁ ≡ entry 1 (be 1 log) → e₂ ≡ entry 2 (be 1 mode) → s₃ ≡ put 11 2 (put 7 4 (put 3 4 s₂ e₁) e₂) (be 2 (1 + content))
      → s₄ ≡ put 13 1 s₃ (be 1 3) → s₄ ≡ front_bytes v rest log mode content
  unfolding front_bytes
  front_put s₀ s₁ s₂ e₁ e₂ s₃ s₄ n is₁ is₂ is₃ is₄ is₅ is₆ =
      far_end f₆ (lengths ∙ sym n) ∙ rw (is₃, is₄) (simp append_assoc)
    where
      four : (tag x : ℕ) → length (entry tag (be 1 x)) ≡ 4
      four tag x = entry_length tag (be 1 x) ∙ rw length_be

      w₃ : length e₁ ≡ 4
      w₃ = ap length is₃ ∙ four 1 log

      w₄ : length e₂ ≡ 4
      w₄ = ap length is₄ ∙ four 2 mode

      f₁ : Far (be 1 v) s₁ (length s₀)
      f₁ = far_more 0 1 (be 1 v) s₁ (far_start s₀) is₁ refl (length_be 1 v) (omega arith)

      f₂ : Far (be 1 v ++ be 2 rest) s₂ (length s₀)
      f₂ = far_more 1 2 (be 2 rest) s₂ f₁ is₂ (length_be 1 v) (length_be 2 rest) (omega arith)

      f₃ : Far ((be 1 v ++ be 2 rest) ++ e₁) (put 3 4 s₂ e₁) (length s₀)
      f₃ = far_more 3 4 e₁ (put 3 4 s₂ e₁) f₂ refl (simp (length-append, length_be)) w₃ (omega arith)

      f₄ : Far (((be 1 v ++ be 2 rest) ++ e₁) ++ e₂) (put 7 4 (put 3 4 s₂ e₁) e₂) (length s₀)
      f₄ = far_more 7 4 e₂ (put 7 4 (put 3 4 s₂ e₁) e₂) f₃ refl (simp (length-append, length_be, w₃)) w₄ (omega arith)

      f₅ : Far ((((be 1 v ++ be 2 rest) ++ e₁) ++ e₂) ++ be 2 (1 + content)) s₃ (length s₀)
      f₅ = far_more 11 2 (be 2 (1 + content)) s₃ f₄ is₅ (simp (length-append, length_be, w₃, w₄)) (length_be 2 (1 + content)) (omega arith)

      f₆ : Far (((((be 1 v ++ be 2 rest) ++ e₁) ++ e₂) ++ be 2 (1 + content)) ++ be 1 3) s₄ (length s₀)
      f₆ = far_more 13 1 (be 1 3) s₄ f₅ is₆ (simp (length-append, length_be, w₃, w₄)) (length_be 1 3) (omega arith)

      lengths : length (((((be 1 v ++ be 2 rest) ++ e₁) ++ e₂) ++ be 2 (1 + content)) ++ be 1 3) ≡ 14
      lengths = simp (length-append, length_be, w₃, w₄)

-- ---- the committers

-- number, length and name make a committer
pub committer_put : (s₀ s₁ s₂ t name : List ℕ) (number : ℕ) → length s₀ ≡ 3 + length name → s₁ ≡ put 0 2 s₀ (be 2 number)
    → s₂ ≡ put 2 1 s₁ (be 1 (length name)) → length s₂ ≡ length s₁ → length s₁ ≡ length s₀ → t ≡ name
    → put 3 (length s₂ - 3) s₂ t ≡ listed (record { number = number; name = name })
unfolding listed
committer_put s₀ s₁ s₂ t name number n e₁ e₂ l₂ l₁ e₃ =
    far_end f₃ (simp (length-append, length_be) (rw e₃ (omega arith)))
    ∙ append_assoc (be 2 number) (be 1 (length name)) t
    ∙ ap (λ (x : List ℕ). be 2 number ++ (be 1 (length name) ++ x)) e₃
  where
    f₁ : Far (be 2 number) s₁ (length s₀)
    f₁ = far_more 0 2 (be 2 number) s₁ (far_start s₀) e₁ refl (length_be 2 number) (omega arith)

    f₂ : Far (be 2 number ++ be 1 (length name)) s₂ (length s₀)
    f₂ = far_more 2 1 (be 1 (length name)) s₂ f₁ e₂ (length_be 2 number) (length_be 1 (length name)) (omega arith)

    f₃ : Far ((be 2 number ++ be 1 (length name)) ++ t) (put 3 (length s₂ - 3) s₂ t) (length s₀)
    f₃ =
        let e : length t ≡ length name = ap length e₃ in
        far_more 3 (length s₂ - 3) t (put 3 (length s₂ - 3) s₂ t) f₂ refl (simp (length-append, length_be)) (omega arith) (omega arith)
