-- What a round over the table rests on: one row of it, and how far its loop is. Assumes nothing.
use Rattle.std.specs.Prelude.{Option, Some, None}
use mathlib.Core.Path.{◌≡◌, refl, sym, ap, ◌∙◌, subst}
use mathlib.Core.Bool.{Bool, true, false}
use mathlib.Core.List.{List, [], ◌∷◌, ◌++◌, map, append-nil}
use Prim.Native.Nat.{ℕ, suc, ◌+◌, ◌-◌, ◌<◌, ◌≤◌}
use native.Mathlib.Nat.{le_trans, le_of_eq}
use native.Mathlib.Omega.{arith}
use lib.ListN.{length, get_or, set, drop, replicate, length-set, length-append, length-replicate, get_or-replicate, drop_of_length-le}
use lib.Seq.{drop-cons}
use Rattle.target.specs.declared.NameNumber.{NameNumber}
use Rattle.transaction.specs.declared.Edit.{Edit}
use Rattle.model.specs.Store.{Store, rows_in, is_prepared, with_rows}
use Rattle.model.specs.Rows.{row_at}
use Rattle.model.specs.Split.{settled, child_of}
use Rattle.slots.specs.Row.{FitsRow}
use Rattle.region.specs.Region.{view, Laid, Became}
use Rattle.writers.proofs.OtherRows.{own_rows, other_rows, rows_seen, still_prepared}
use Rattle.splits.proofs.Fits.{fits_at, fits_child, name_fits}
use Rattle.splits.specs.Round.{hide, followed, step_by, stepped, steps}

-- ---- one row

module _ (r r₁ : List ℕ) (i : ℕ) (follow : Bool) (x kept : Edit) (o : Option NameNumber)
    (y : is_prepared (view r).prepared ≡ true)
    (ex : x ≡ row_at (rows_in (view r).prepared) i) (eo : o ≡ followed (view r) follow x) (ek : kept ≡ settled o x)
    (b : Became r₁ (with_rows (view r) (set (rows_in (view r).prepared) i kept))) where
  step_to : stepped (view r) follow i (rows_in (view r).prepared) ≡ set (rows_in (view r).prepared) i kept ++ map hide (child_of o i x)
  unfolding stepped
  step_to =
      ap (λ (z : Edit). step_by (followed (view r) follow z) i (rows_in (view r).prepared)) (sym ex)
      ∙ ap (λ (o : Option NameNumber). step_by o i (rows_in (view r).prepared)) (sym eo)
      ∙ ap (λ (z : Edit). set (rows_in (view r).prepared) i (settled o z) ++ map hide (child_of o i z)) (sym ex)
      ∙ ap (λ (z : Edit). set (rows_in (view r).prepared) i z ++ map hide (child_of o i x)) (sym ek)

  pub step_none : o ≡ None → Became r₁ (with_rows (view r) (stepped (view r) follow i (rows_in (view r).prepared)))
  step_none e =
      subst (λ (l : List Edit). Became r₁ (with_rows (view r) l))
      (sym (step_to ∙ ap (λ (o : Option NameNumber). set (rows_in (view r).prepared) i kept ++ map hide (child_of o i x)) e ∙ append-nil _)) b

  pub room_left : (n : NameNumber) (c : Edit) → Laid r → i < length (rows_in (view r).prepared) → length (rows_in (view r).prepared) < 160
      → o ≡ Some n → (c ∷ []) ≡ map hide (child_of (Some n) i x)
      → (is_prepared (view r₁).prepared ≡ true) × ((length (rows_in (view r₁).prepared) < 160) × FitsRow c)
  room_left n c l g h e ec = (
    still_prepared r₁ (view r) _ b y,
    (
      le_trans (le_of_eq (ap suc (ap length (rows_seen r₁ (view r) _ b y) ∙ length-set (rows_in (view r).prepared) i kept))) h,
      fits_child x c n i (fits_at r l i x g ex) (name_fits r l follow x o n eo e) (omega arith) ec,
    ),
  )

  pub step_split : (r₂ : List ℕ) (n : NameNumber) (c : Edit) → o ≡ Some n → (c ∷ []) ≡ map hide (child_of (Some n) i x)
      → Became r₂ (with_rows (view r₁) (rows_in (view r₁).prepared ++ (c ∷ [])))
      → Became r₂ (with_rows (view r) (stepped (view r) follow i (rows_in (view r).prepared)))
  step_split r₂ n c e ec b₂ =
      subst (Became r₂)
      (other_rows (view r) (view r₁) _ (rows_in (view r₁).prepared ++ (c ∷ [])) b.seen
      ∙ ap (λ (l : List Edit). with_rows (view r) (l ++ (c ∷ []))) (rows_seen r₁ (view r) _ b y)
      ∙ ap (λ (l : List Edit). with_rows (view r) (set (rows_in (view r).prepared) i kept ++ l)) (ec ∙ ap (λ (o : Option NameNumber). map hide (child_of o i x)) (sym e))
      ∙ ap (with_rows (view r)) (sym step_to))
      b₂

-- ---- the loop

length_step : (s : Store) (follow : Bool) (i : ℕ) (l : List Edit) → (length l ≤ length (stepped s follow i l)) × (length (stepped s follow i l) ≤ length l + 1)
unfolding stepped
length_step s follow i l = go (followed s follow (row_at l i))
  where
    go : (o : Option NameNumber) → (length l ≤ length (step_by o i l)) × (length (step_by o i l) ≤ length l + 1)
    go None = (simp (length-append, length-set) (omega arith), simp (length-append, length-set) (omega arith))
    go (Some n) = (simp (length-append, length-set) (omega arith), simp (length-append, length-set) (omega arith))

-- how far the loop over n rows from place `first` on is: the rows so far, and that what is left of the round gives the whole
pub record Far (fs : List Bool) (n first : ℕ) (r₀ : List ℕ) (i : ℕ) (r : List ℕ) : Type 0 where
  pub laid : Laid r
  pub same : length r ≡ length r₀
  pub prepared : is_prepared (view r).prepared ≡ true
  pub many : length fs ≡ n
  pub from : first ≤ i
  pub upto : i ≤ first + n
  pub grown : first + n ≤ length (rows_in (view r).prepared)
  pub small : length (rows_in (view r).prepared) ≤ length (rows_in (view r₀).prepared) + (i - first)
  pub seen : view r ≡ with_rows (view r₀) (rows_in (view r).prepared)
  pub whole : steps (view r₀) (drop (i - first) fs) i (rows_in (view r).prepared) ≡ steps (view r₀) fs first (rows_in (view r₀).prepared)

-- a step looks at names and values alone
step_of : (s : Store) (l m : List Edit) (follow : Bool) (i : ℕ) → stepped (with_rows s l) follow i m ≡ stepped s follow i m
unfolding stepped
step_of s l m follow i = refl

module _ (fs : List Bool) (n first : ℕ) where
  pub far_start : (r : List ℕ) → Laid r → is_prepared (view r).prepared ≡ true → length fs ≡ n → first + n ≤ length (rows_in (view r).prepared)
      → Far fs n first r first r
  far_start r l y e h =
      let z : first - first ≡ 0 = omega arith in
      record {
        laid = l;
        same = refl;
        prepared = y;
        many = e;
        from = omega arith;
        upto = omega arith;
        grown = h;
        small = omega arith;
        seen = own_rows (view r);
        whole = ap (λ (k : ℕ). steps (view r) (drop k fs) first (rows_in (view r).prepared)) z;
      }

  module _ (r₀ r : List ℕ) (i : ℕ) (f : Far fs n first r₀ i r) where
    pub far_more : (r' : List ℕ) (b : Bool) → i < first + n → b ≡ get_or fs (i - first) false → length r' ≡ length r
        → Became r' (with_rows (view r) (stepped (view r) b i (rows_in (view r).prepared)))
        → Far fs n first r₀ (i + 1) r'
    unfolding steps
    far_more r' b h eb el w =
        let l : List Edit = rows_in (view r).prepared in
        let s : Store = view r₀ in
        let e₁ : stepped (view r) b i l ≡ stepped s b i l = ap (λ (t : Store). stepped t b i l) f.seen ∙ step_of s l l b i in
        let e₂ : rows_in (view r').prepared ≡ stepped s b i l = rows_seen r' (view r) _ w f.prepared ∙ e₁ in
        let m : length (rows_in (view r').prepared) ≡ length (stepped s b i l) = ap length e₂ in
        let g : (length l ≤ length (stepped s b i l)) × (length (stepped s b i l) ≤ length l + 1) = length_step s b i l in
        let k : suc (i - first) ≡ i + 1 - first = omega (arith, f.from) in
        let d : i - first < length fs = omega (arith, f.from, f.many) in
        record {
          laid = w.laid;
          same = el ∙ f.same;
          prepared = still_prepared r' (view r) _ w f.prepared;
          many = f.many;
          from = omega (arith, f.from);
          upto = omega arith;
          grown = omega (arith, f.grown, g.0);
          small = omega (arith, f.small, f.from, g.1);
          seen =
              w.seen
              ∙ other_rows s (view r) l (stepped (view r) b i l) f.seen
              ∙ ap (with_rows s) (e₁ ∙ sym e₂);
          whole =
              ap (steps s (drop (i + 1 - first) fs) (i + 1)) e₂
              ∙ ap (λ (k : ℕ). steps s (drop k fs) (i + 1) (stepped s b i l)) (sym k)
              ∙ ap (λ (b : Bool). steps s (b ∷ drop (suc (i - first)) fs) i l) eb
              ∙ ap (λ (fs : List Bool). steps s fs i l) (sym (drop-cons fs (i - first) false d))
              ∙ f.whole;
        }

    pub far_end : first + n ≤ i → Became r (with_rows (view r₀) (steps (view r₀) fs first (rows_in (view r₀).prepared)))
    unfolding steps
    far_end h =
        let d : length fs ≤ i - first = omega (arith, f.many) in
        record {
          laid = f.laid;
          seen =
              f.seen
              ∙ ap (with_rows (view r₀)) (sym (ap (λ (fs : List Bool). steps (view r₀) fs i (rows_in (view r).prepared)) (drop_of_length-le fs d)) ∙ f.whole);
        }

-- ---- a later round

module _ (first end : ℕ) where
  pub round_start : (r : List ℕ) → Laid r → is_prepared (view r).prepared ≡ true → end ≡ length (rows_in (view r).prepared)
      → first ≤ length (rows_in (view r).prepared)
      → Far (replicate (end - first) true) (end - first) first r first r
  round_start r l y e h = far_start (replicate (end - first) true) (end - first) first r l y (length-replicate (end - first) true) (omega arith)

  module _ (r₀ r : List ℕ) (i : ℕ) (f : Far (replicate (end - first) true) (end - first) first r₀ i r) where
    pub round_more : (r' : List ℕ) → i < end → length r' ≡ length r
        → Became r' (with_rows (view r) (stepped (view r) true i (rows_in (view r).prepared)))
        → Far (replicate (end - first) true) (end - first) first r₀ (i + 1) r'
    round_more r' h el w =
        far_more (replicate (end - first) true) (end - first) first r₀ r i f r' true (omega (arith, f.from))
        (sym (get_or-replicate (end - first) (i - first) true false (omega (arith, f.from)))) el w

    pub round_end : end ≤ i → end ≡ length (rows_in (view r₀).prepared)
        → Became r (with_rows (view r₀) (steps (view r₀) (replicate (length (rows_in (view r₀).prepared) - first) true) first (rows_in (view r₀).prepared)))
    round_end h e =
        subst (λ (k : ℕ). Became r (with_rows (view r₀) (steps (view r₀) (replicate (k - first) true) first (rows_in (view r₀).prepared)))) e
        (far_end (replicate (end - first) true) (end - first) first r₀ r i f (omega (arith, f.from)))
