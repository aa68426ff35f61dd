-- The climb looks at parents of earlier rows only, so rows that are appended change none of it; and it is one place at a time,
-- whatever number of steps from the place on it is given. Assumes nothing.
use Rattle.std.specs.Prelude.{Option, Some, None}
use mathlib.Core.Path.{◌≡◌, refl, ap, subst, ◌∙◌}
use mathlib.Core.Bool.{true}
use mathlib.Core.List.{List, [], ◌∷◌, ◌++◌}
use Prim.Native.Nat.{ℕ, zero, suc, ◌-◌, ◌≤◌, ◌<◌}
use native.Mathlib.Omega.{arith}
use lib.ListN.{length, get_or-append}
use borrow.Author.Tests.{ltb-true, lt-ltb}
use Rattle.transaction.specs.declared.Edit.{Edit}
use Rattle.model.specs.Store.{no_row}
use Rattle.model.specs.Rows.{row_at, climb, ancestors}
use Rattle.model.specs.Fine.{fine_parent, Upward}

abbrev pub parent_at : List Edit → ℕ → Option ℕ
parent_at rows i = (row_at rows i).parent_index

-- every parent is an earlier row, or none
abbrev pub Earlier : List Edit → Type 0
Earlier rows = (i : ℕ) → i < length rows → fine_parent i (parent_at rows i) ≡ true

pub parent_later : (a b : ℕ) (p : Option ℕ) → a ≤ b → fine_parent a p ≡ true → fine_parent b p ≡ true
parent_later a b None h e = refl
parent_later a b (Some j) h e = let k : j < a = ltb-true j a e in lt-ltb j b (omega arith)

pub climb_append : (k : ℕ) (rows more : List Edit) (p : Option ℕ)
    → Earlier rows → fine_parent (length rows) p ≡ true → climb k (rows ++ more) p ≡ climb k rows p
climb_append zero rows more p w h = refl
climb_append (suc k) rows more None w h = refl
climb_append (suc k) rows more (Some j) w h =
    let i : j < length rows = ltb-true j (length rows) h in
    let p : (Option ℕ) = parent_at rows j in
    let q : fine_parent (length rows) p ≡ true = parent_later j (length rows) p (omega arith) (w j i) in
    rw (get_or-append rows more no_row j i) (ap (λ (l : List ℕ). j ∷ l) (climb_append k rows more p w q))

-- ---- from a parent on, itself counted, there are at most d ancestors

abbrev pub Few : List Edit → ℕ → Option ℕ → Type 0
Few rows d p = (k : ℕ) → length (climb k rows p) ≤ d

pub few_none : (rows : List Edit) (d : ℕ) → Few rows d None
few_none rows d zero = omega arith
few_none rows d (suc k) = omega arith

pub few_up : (rows : List Edit) (d i : ℕ) → Few rows d (parent_at rows i) → Few rows (suc d) (Some i)
few_up rows d i f zero = omega arith
few_up rows d i f (suc k) = let h : length (climb k rows (parent_at rows i)) ≤ d = f k in omega arith

pub few_more : (rows : List Edit) (d e : ℕ) (p : Option ℕ) → d ≤ e → Few rows d p → Few rows e p
few_more rows d e p h f k = let g : length (climb k rows p) ≤ d = f k in omega arith

pub few_append : (rows more : List Edit) (d : ℕ) (p : Option ℕ)
    → Earlier rows → fine_parent (length rows) p ≡ true → Few rows d p → Few (rows ++ more) d p
few_append rows more d p w h f k = rw (climb_append k rows more p w h) (f k)

-- ---- one place at a time

-- as many steps as the place suffice, more change nothing
climb_fuel : (rows : List Edit) (m : ℕ) → Upward m rows → (k j n : ℕ) (p : Option ℕ) → fine_parent n p ≡ true → n ≤ m → n ≤ k → n ≤ j
    → climb k rows p ≡ climb j rows p
climb_fuel rows m w zero zero n p f h a b = refl
climb_fuel rows m w zero (suc j) n None f h a b = refl
climb_fuel rows m w zero (suc j) n (Some q) f h a b = absurd (let l : q < n = ltb-true q n f in omega arith)
climb_fuel rows m w (suc k) zero n None f h a b = refl
climb_fuel rows m w (suc k) zero n (Some q) f h a b = absurd (let l : q < n = ltb-true q n f in omega arith)
climb_fuel rows m w (suc k) (suc j) n None f h a b = refl
climb_fuel rows m w (suc k) (suc j) n (Some q) f h a b =
    let l : q < n = ltb-true q n f in
    let t : q < m = omega arith in
    ap (λ (l : List ℕ). q ∷ l) (climb_fuel rows m w k j q (parent_at rows q) (w.up q t) (omega arith) (omega arith) (omega arith))

module _ (rows : List Edit) (i : ℕ) where
  pub ancestors_none : parent_at rows i ≡ None → ancestors rows i ≡ []
  unfolding ancestors
  ancestors_none e = ap (climb i rows) e ∙ none i
    where
      none : (k : ℕ) → climb k rows None ≡ []
      none zero = refl
      none (suc k) = refl

  module _ (m : ℕ) (w : Upward m rows) (h : i < m) (p : ℕ) (e : parent_at rows i ≡ Some p) where
    pub falls : p < i
    falls = ltb-true p i (subst (λ (q : Option ℕ). fine_parent i q ≡ true) e (w.up i h))

    pub ancestors_up : ancestors rows i ≡ p ∷ ancestors rows p
    unfolding ancestors
    ancestors_up =
        let q : p < i = falls in
        let k : i ≡ suc (i - 1) = omega arith in
        ap (climb i rows) e
        ∙ ap (λ (n : ℕ). climb n rows (Some p)) k
        ∙ ap (λ (l : List ℕ). p ∷ l)
        (climb_fuel rows m w (i - 1) p p (parent_at rows p) (w.up p (omega arith)) (omega arith) (omega arith) (omega arith))
