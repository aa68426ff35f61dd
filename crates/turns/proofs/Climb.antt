-- The turns keep every parent: rows alike have the same climb, and what a turn leaves is alike. Assumes nothing.
use Rattle.std.specs.Prelude.{Option, Some, None}
use Rattle.target.specs.declared.Target.{Target}
use mathlib.Core.Path.{◌≡◌, refl, sym, ap, subst, ◌∙◌}
use mathlib.Core.Bool.{Bool, true}
use mathlib.Core.List.{List, [], ◌∷◌, map}
use Prim.Native.Nat.{ℕ, ◌<◌}
use lib.ListN.{length, set}
use lib.Seq.{map-set_same}
use Rattle.target.specs.declared.ObjectNumber.{ObjectNumber}
use Rattle.transaction.specs.declared.Change.{Change}
use Rattle.transaction.specs.declared.Change.TheVariants.{Update, Delete}
use Rattle.transaction.specs.declared.Edit.{Edit}
use Rattle.transaction.specs.Change.{previous_oid}
use Rattle.model.specs.Store.{Store, no_row}
use Rattle.model.specs.Rows.{change_in, row_at, ancestors}
use Rattle.model.specs.Fine.{fine_parent, Upward}
use Rattle.model.specs.Prepare.{existing, observing, observed, with_leaf, handed_to, handed_on, turned}
use Rattle.model.proofs.Alike.{unexpecting, plain, Alike, alike_length, alike_at, alike_ancestors}
use Rattle.model.proofs.Climbs.{parent_at, ancestors_none, ancestors_up}

-- ---- rows alike

pub upward_alike : (rows rows' : List Edit) → Alike rows' rows → Upward (length rows) rows → Upward (length rows') rows'
upward_alike rows rows' e w =
    record {
      up =
          λ i h. subst (λ (p : Option ℕ). fine_parent i p ≡ true)
          (sym (alike_at rows' rows e (λ (r : Edit). r.parent_index) (λ r. refl) i))
          (w.up i (rw (← alike_length rows' rows e) h));
    }

leaf_alike : (rows : List Edit) (p : ℕ) (o : ObjectNumber) → Alike (set rows p (with_leaf o (row_at rows p))) rows
leaf_alike rows p o = map-set_same plain rows p (with_leaf o (row_at rows p)) no_row refl

unexpecting_observing : (c : Change) (x : Option Target) → unexpecting (observing c x) ≡ unexpecting c
unexpecting_observing c None = refl
unexpecting_observing (Update log expected new) (Some t) = refl
unexpecting_observing (Delete expected log) (Some t) = refl

observed_alike : (rows : List Edit) (i : ℕ) (x : Option Target) → Alike (set rows i (observed (row_at rows i) x)) rows
observed_alike rows i x =
    map-set_same plain rows i (observed (row_at rows i) x) no_row (rw (unexpecting_observing (change_in (row_at rows i)) x))

handed_alike : (ps : List ℕ) (o : ObjectNumber) (rows : List Edit) → Alike (handed_to ps o rows) rows
handed_alike [] o rows = refl
handed_alike (p ∷ ps) o rows = handed_alike ps o (set rows p (with_leaf o (row_at rows p))) ∙ leaf_alike rows p o

pub turned_alike : (s : Store) (opened : Bool) (rows : List Edit) (i : ℕ) → Alike (turned s opened rows i) rows
unfolding turned
turned_alike s opened rows i =
    let x : (Option Target) = existing s opened (row_at rows i) in
    on (previous_oid (change_in (observed (row_at rows i) x))) (set rows i (observed (row_at rows i) x)) ∙ observed_alike rows i x
  where
    on : (y : Option ObjectNumber) (l : List Edit) → Alike (handed_on y (ancestors rows i) l) l
    on None l = refl
    on (Some o) l = handed_alike (ancestors rows i) o l

-- ---- handing up, one parent at a time

pub leaf_upward : (rows : List Edit) (p : ℕ) (o : ObjectNumber) → Upward (length rows) rows
    → Upward (length (set rows p (with_leaf o (row_at rows p)))) (set rows p (with_leaf o (row_at rows p)))
leaf_upward rows p o w = upward_alike rows (set rows p (with_leaf o (row_at rows p))) (leaf_alike rows p o) w

module _ (rows : List Edit) (i : ℕ) (o : ObjectNumber) where
  pub hand_none : parent_at rows i ≡ None → rows ≡ handed_to (ancestors rows i) o rows
  hand_none e = ap (λ (ps : List ℕ). handed_to ps o rows) (sym (ancestors_none rows i e))

  pub hand_up : Upward (length rows) rows → i < length rows → (p : ℕ) → parent_at rows i ≡ Some p
      → handed_to (ancestors (set rows p (with_leaf o (row_at rows p))) p) o (set rows p (with_leaf o (row_at rows p))) ≡ handed_to (ancestors rows i) o rows
  hand_up w h p e =
      let next : List Edit = set rows p (with_leaf o (row_at rows p)) in
      ap (λ (ps : List ℕ). handed_to ps o next) (alike_ancestors next rows (leaf_alike rows p o) p)
      ∙ ap (λ (ps : List ℕ). handed_to ps o rows) (sym (ancestors_up rows i (length rows) w h p e))

-- ---- the turn's writing part, from the row kept on

module _ (s : Store) (opened : Bool) (rows : List Edit) (i : ℕ) (kept : Edit) (e : kept ≡ observed (row_at rows i) (existing s opened (row_at rows i))) where
  kept_alike : Alike (set rows i kept) rows
  kept_alike = ap (λ (r : Edit). map plain (set rows i r)) e ∙ observed_alike rows i (existing s opened (row_at rows i))

  pub kept_upward : Upward (length rows) rows → Upward (length (set rows i kept)) (set rows i kept)
  kept_upward w = upward_alike rows (set rows i kept) kept_alike w

  -- what is handed on of the row kept is what the turn hands on
  kept_handed : (y : Option ObjectNumber) → previous_oid (change_in kept) ≡ y → handed_on y (ancestors rows i) (set rows i kept) ≡ turned s opened rows i
  unfolding turned
  kept_handed y ey =
      ap (λ (y : Option ObjectNumber). handed_on y (ancestors rows i) (set rows i kept)) (sym ey)
      ∙ ap (λ (r : Edit). handed_on (previous_oid (change_in r)) (ancestors rows i) (set rows i r)) e

  pub turned_none : previous_oid (change_in kept) ≡ None → set rows i kept ≡ turned s opened rows i
  turned_none ey = kept_handed None ey

  pub turned_handed : (o : ObjectNumber) → previous_oid (change_in kept) ≡ Some o
      → handed_to (ancestors (set rows i kept) i) o (set rows i kept) ≡ turned s opened rows i
  turned_handed o ey =
      ap (λ (ps : List ℕ). handed_to ps o (set rows i kept)) (alike_ancestors (set rows i kept) rows kept_alike i) ∙ kept_handed (Some o) ey
