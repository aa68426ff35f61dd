-- What a turn writes into a region: rows that fit their slots, those of the ancestors one parent at a time. Assumes nothing.
use Rattle.std.specs.Prelude.{Option, Some, None}
use Rattle.target.specs.declared.Target.{Target}
use mathlib.Core.Path.{◌≡◌, refl, sym, ap, subst, ◌∙◌}
use mathlib.Core.Bool.{Bool}
use mathlib.Core.List.{List}
use Prim.Native.Nat.{ℕ, ◌<◌, ◌^◌}
use native.Mathlib.Omega.{arith}
use lib.ListN.{length, set, length-set}
use Rattle.target.specs.declared.ObjectNumber.{ObjectNumber}
use Rattle.transaction.specs.declared.Change.{Change}
use Rattle.transaction.specs.declared.Change.TheVariants.{Update, Delete}
use Rattle.transaction.specs.declared.Edit.{Edit}
use Rattle.transaction.specs.Change.{message_of, new_value, previous_value, previous_oid}
use Rattle.model.specs.Store.{Store, Prepared, rows_in, rows_as, with_prepared, with_rows}
use Rattle.model.specs.Rows.{name_in, change_in, row_at, ancestors}
use Rattle.model.specs.Fine.{Upward}
use Rattle.model.specs.Prepare.{existing, observing, observed, with_leaf, handed_to, turned}
use Rattle.model.proofs.Climbs.{parent_at, falls}
use Rattle.slots.specs.Row.{FitsRow, FitsOption}
use Rattle.region.specs.Region.{view, Laid, Became}
use Rattle.region.proofs.Fits.{reads_fit}
use Rattle.region.proofs.Decode.{laid_image}
use Rattle.writers.proofs.OtherRows.{as_as, own_rows}
use Rattle.turns.proofs.Climb.{leaf_upward, hand_none, hand_up, kept_upward, turned_none, turned_handed}

-- ---- a store with other rows

-- there is a row, so the store is prepared
rows_as_lem : (l : List Edit) (q : Option Prepared) (i : ℕ) → i < length (rows_in q) → rows_in (rows_as l q) ≡ l
rows_as_lem l None i h = absurd (omega arith)
rows_as_lem l (Some p) i h = refl

module _ (r r' : List ℕ) (i : ℕ) (l : List Edit) (h : i < length (rows_in (view r).prepared)) (b : Became r' (with_rows (view r) l)) where
  pub rows_seen : rows_in (view r').prepared ≡ l
  rows_seen = ap (λ (t : Store). rows_in t.prepared) b.seen ∙ rows_as_lem l (view r).prepared i h

  then : (r'' : List ℕ) (m : List Edit) (f : List Edit → List Edit) → f l ≡ m
      → Became r'' (with_rows (view r') (f (rows_in (view r').prepared))) → Became r'' (with_rows (view r) m)
  then r'' m f e c =
      subst (Became r'')
      (ap (λ (t : Store). with_rows t (f (rows_in (view r').prepared))) b.seen
      ∙ ap (with_prepared (view r)) (as_as l (f (rows_in (view r').prepared)) (view r).prepared)
      ∙ ap (λ (k : List Edit). with_rows (view r) (f k)) rows_seen
      ∙ ap (with_rows (view r)) e)
      c

abbrev rows_of : List ℕ → List Edit
rows_of r = rows_in (view r).prepared

-- rows that are there fit
fits_at : (r : List ℕ) (l : Laid r) (i : ℕ) (x : Edit) → i < length (rows_in (view r).prepared) → x ≡ row_at (rows_in (view r).prepared) i → FitsRow x
fits_at r l i x h e = subst FitsRow (sym e) ((laid_image r l).1.row i h)

-- ---- handing up

parent_here : (rows : List Edit) (i : ℕ) (x : Edit) (p : Option ℕ) → x ≡ row_at rows i → x.parent_index ≡ p → parent_at rows i ≡ p
parent_here rows i x p e h = ap (λ (r : Edit). r.parent_index) (sym e) ∙ h

pub up_none : (r : List ℕ) (i : ℕ) (x : Edit) (o : ObjectNumber) → Laid r → x ≡ row_at (rows_in (view r).prepared) i → x.parent_index ≡ None
    → Became r (with_rows (view r) (handed_to (ancestors (rows_in (view r).prepared) i) o (rows_in (view r).prepared)))
up_none r i x o l e h =
    record { laid = l; seen = own_rows (view r) ∙ ap (with_rows (view r)) (hand_none (rows_of r) i o (parent_here (rows_of r) i x None e h)) }

-- the row at place i has the parent p
pub record Under (r : List ℕ) (i p : ℕ) : Type 0 where
  pub laid : Laid r
  pub there : i < length (rows_in (view r).prepared)
  pub upward : Upward (length (rows_in (view r).prepared)) (rows_in (view r).prepared)
  pub parent : parent_at (rows_in (view r).prepared) i ≡ Some p

pub under : (r : List ℕ) (i p : ℕ) (x : Edit) → Laid r → i < length (rows_in (view r).prepared)
    → Upward (length (rows_in (view r).prepared)) (rows_in (view r).prepared) → x ≡ row_at (rows_in (view r).prepared) i
    → x.parent_index ≡ Some p → Under r i p
under r i p x l h w e k = record { laid = l; there = h; upward = w; parent = parent_here (rows_of r) i x (Some p) e k }

-- a row that is there fits with another leaf-previous
pub leaf_fits : (r : List ℕ) (i : ℕ) (o : ObjectNumber) (y up : Edit) → Laid r → i < length (rows_in (view r).prepared)
    → y ≡ row_at (rows_in (view r).prepared) i → up ≡ with_leaf o y → o.0 < 2 ^ 64 → FitsRow up
leaf_fits r i o y up l h ey eu k =
    let f : FitsRow y = fits_at r l i y h ey in
    subst FitsRow (sym eu)
    (record { name = f.name; deref = f.deref; message = f.message; was = f.was; new = f.new; parent = f.parent; leaf = k })

-- the leaf-previous is in the row at place p, up
pub leafed : (r r₁ : List ℕ) (p : ℕ) (o : ObjectNumber) (y up : Edit) → y ≡ row_at (rows_in (view r).prepared) p → up ≡ with_leaf o y
    → Became r₁ (with_rows (view r) (set (rows_in (view r).prepared) p up))
    → Became r₁ (with_rows (view r) (set (rows_in (view r).prepared) p (with_leaf o (row_at (rows_in (view r).prepared) p))))
leafed r r₁ p o y up ey eu b =
    subst (λ (x : Edit). Became r₁ (with_rows (view r) (set (rows_of r) p x))) (eu ∙ ap (with_leaf o) ey) b

module _ {r : List ℕ} {i p : ℕ} (u : Under r i p) where
  pub up_falls : p < i
  up_falls = falls (rows_of r) i (length (rows_of r)) u.upward u.there p u.parent

  pub up_in : p < length (rows_in (view r).prepared)
  up_in = let q : p < i = up_falls in let h : i < length (rows_of r) = u.there in omega arith

  module _ (o : ObjectNumber) (r₁ : List ℕ)
      (b : Became r₁ (with_rows (view r) (set (rows_in (view r).prepared) p (with_leaf o (row_at (rows_in (view r).prepared) p))))) where
    seen : rows_of r₁ ≡ set (rows_of r) p (with_leaf o (row_at (rows_of r) p))
    seen = rows_seen r r₁ i _ u.there b

    pub up_still : p < length (rows_in (view r₁).prepared)
    up_still =
        let n : length (rows_of r₁) ≡ length (rows_of r) = ap length seen ∙ length-set (rows_of r) p _ in
        let k : p < length (rows_of r) = up_in in
        omega arith

    pub up_upward : Upward (length (rows_in (view r₁).prepared)) (rows_in (view r₁).prepared)
    up_upward = subst (λ (k : List Edit). Upward (length k) k) (sym seen) (leaf_upward (rows_of r) p o u.upward)

    pub up_more : (r₂ : List ℕ)
        → Became r₂ (with_rows (view r₁) (handed_to (ancestors (rows_in (view r₁).prepared) p) o (rows_in (view r₁).prepared)))
        → Became r₂ (with_rows (view r) (handed_to (ancestors (rows_in (view r).prepared) i) o (rows_in (view r).prepared)))
    up_more r₂ c =
        then r r₁ i _ u.there b r₂ _ (λ (k : List Edit). handed_to (ancestors k p) o k)
        (hand_up (rows_of r) i o u.upward u.there p u.parent) c

-- ---- an existing value fits

observing_was : (c : Change) (x : Option Target) → FitsOption (previous_value c) → FitsOption x → FitsOption (previous_value (observing c x))
observing_was c None f g = f
observing_was (Update log expected new) (Some t) f g = g
observing_was (Delete expected log) (Some t) f g = g

observing_new : (c : Change) (x : Option Target) → new_value (observing c x) ≡ new_value c
observing_new c None = refl
observing_new (Update log expected new) (Some t) = refl
observing_new (Delete expected log) (Some t) = refl

observing_message : (c : Change) (x : Option Target) → message_of (observing c x) ≡ message_of c
observing_message c None = refl
observing_message (Update log expected new) (Some t) = refl
observing_message (Delete expected log) (Some t) = refl

-- ---- the turn

-- row is the row at place i, x the existing value, kept the row with it
module _ (r : List ℕ) (i : ℕ) (opened : Bool) (row : Edit) (x : Option Target) (kept : Edit) (er : row ≡ row_at (rows_in (view r).prepared) i)
    (ex : x ≡ existing (view r) opened row) (ek : kept ≡ observed row x) where
  pub kept_fits : Laid r → i < length (rows_in (view r).prepared) → FitsRow kept
  kept_fits l h =
      let f : FitsRow row = fits_at r l i row h er in
      subst FitsRow (sym ek)
      (record {
        name = f.name;
        deref = f.deref;
        message = subst (λ (n : ℕ). n < 2 ^ 16) (sym (observing_message (change_in row) x)) f.message;
        was = observing_was (change_in row) x f.was (subst FitsOption (sym ex) (reads_fit (view r) (laid_image r l).1 opened (name_in row)));
        new = subst FitsOption (sym (observing_new (change_in row) x)) f.new;
        parent = f.parent;
        leaf = f.leaf;
      })

  kept_is : kept ≡ observed (row_at (rows_in (view r).prepared) i) (existing (view r) opened (row_at (rows_in (view r).prepared) i))
  kept_is = ek ∙ ap (observed row) ex ∙ ap (λ (r' : Edit). observed r' (existing (view r) opened r')) er

  pub kept_put : (r₁ : List ℕ) → Became r₁ (with_rows (view r) (set (rows_in (view r).prepared) i kept))
      → (kept ≡ observed (row_at (rows_in (view r).prepared) i) (existing (view r) opened (row_at (rows_in (view r).prepared) i)))
      × Became r₁ (with_rows (view r) (set (rows_in (view r).prepared) i kept))
  kept_put r₁ b = (kept_is, b)

-- the row kept is in the region
module _ (r : List ℕ) (i : ℕ) (h : i < length (rows_in (view r).prepared)) (opened : Bool) (kept : Edit)
    (e : kept ≡ observed (row_at (rows_in (view r).prepared) i) (existing (view r) opened (row_at (rows_in (view r).prepared) i)))
    (r₁ : List ℕ) (b : Became r₁ (with_rows (view r) (set (rows_in (view r).prepared) i kept))) where
  pub turn_none : previous_oid (change_in kept) ≡ None → Became r₁ (with_rows (view r) (turned (view r) opened (rows_in (view r).prepared) i))
  turn_none ey = subst (λ (k : List Edit). Became r₁ (with_rows (view r) k)) (turned_none (view r) opened (rows_of r) i kept e ey) b

  pub turn_still : i < length (rows_in (view r₁).prepared)
  turn_still =
      let n : length (rows_of r₁) ≡ length (rows_of r) = ap length (rows_seen r r₁ i _ h b) ∙ length-set (rows_of r) i kept in
      omega arith

  pub turn_upward : Upward (length (rows_in (view r).prepared)) (rows_in (view r).prepared)
      → Upward (length (rows_in (view r₁).prepared)) (rows_in (view r₁).prepared)
  turn_upward w =
      subst (λ (k : List Edit). Upward (length k) k) (sym (rows_seen r r₁ i _ h b)) (kept_upward (view r) opened (rows_of r) i kept e w)

  pub turn_handed : (o : ObjectNumber) (r₂ : List ℕ) → previous_oid (change_in kept) ≡ Some o
      → Became r₂ (with_rows (view r₁) (handed_to (ancestors (rows_in (view r₁).prepared) i) o (rows_in (view r₁).prepared)))
      → Became r₂ (with_rows (view r) (turned (view r) opened (rows_in (view r).prepared) i))
  turn_handed o r₂ ey c =
      then r r₁ i _ h b r₂ _ (λ (k : List Edit). handed_to (ancestors k i) o k) (turned_handed (view r) opened (rows_of r) i kept e o ey) c
