-- The packed write, row by row: each row by the store as it is. Assumes nothing.
use Rattle.std.specs.Prelude.{Option, Some, None}
use Rattle.target.specs.declared.Target.{Target}
use Rattle.target.specs.declared.ObjectNumber.{ObjectNumber}
use mathlib.Core.Path.{◌≡◌, refl, sym, ap, ap₂, ◌∙◌, subst}
use mathlib.Core.Bool.{Bool, true, false, ◌&&◌, cond}
use mathlib.Core.List.{List, [], ◌∷◌, ◌++◌}
use Prim.Native.Nat.{ℕ, suc, ◌+◌, ◌-◌, ◌≤◌, ◌<◌}
use native.Mathlib.Omega.{arith}
use native.Mathlib.Numerals.{add-one}
use lib.ListN.{length, get_or, drop, drop_of_length-le, length-drop}
use lib.Seq.{drop-cons, get_or-drop}
use Rattle.target.specs.declared.NameNumber.{NameNumber}
use Rattle.target.specs.declared.Target.TheVariants.{Object, Symbolic}
use Rattle.transaction.specs.declared.PackedRefs.{PackedRefs}
use Rattle.transaction.specs.declared.Edit.{Edit}
use Rattle.transaction.specs.Change.{new_value, is_delete}
use Rattle.model.specs.Basic.{collect, when}
use Rattle.model.specs.Store.{Store, Entry, no_entry, no_row, count, entry_at, entry_of, is_packed, put_packed, change_at, change_entry, with_entries}
use Rattle.model.specs.Rows.{name_in, change_in, row_at, counts, packs_updates}
use Rattle.model.specs.Writes.{PackedEdit, apply, apply_packed, packed_set, packed_edit, packed_edits}
use Rattle.model.specs.Writes.Write.{write_packed}
use Rattle.model.proofs.Places.{collect_same}
use Rattle.model.proofs.KeptCommit.{applied_count}
use Rattle.model.proofs.Switch.{whole, quiet_step}
use Rattle.model.proofs.Touch.{entry_after}
use Rattle.model.proofs.RowSteps.{other_packed}
use Rattle.slots.specs.Values.{FitsPacked}
use Rattle.slots.specs.Row.{FitsOption, FitsRow}
use Rattle.region.specs.Region.{view, Laid, Became}
use Rattle.region.proofs.Decode.{laid_image}
use Rattle.writes.specs.Next.{rows_of, mode_of, the_row, packed_list}
use Rattle.rows.specs.Rows.{Named, Apart}

-- ---- one row's part of the packed write

-- the value that is set is none, or the object of a row that fits
abbrev one : NameNumber → Option ObjectNumber → List PackedEdit
one n v = record { name = n; value = v } ∷ []

abbrev first_value : List PackedEdit → Option ObjectNumber
first_value [] = None
first_value (p ∷ ps) = p.value

not_empty : {P : Type 0} (n : NameNumber) (v : Option ObjectNumber) → one n v ≡ [] → P
not_empty n v e = absurd (let z : ◌≡◌ {A = ℕ} 0 1 = cc in omega arith)

none_fits : (n : NameNumber) (v : Option ObjectNumber) (b : Bool) → one n v ≡ when b (record { name = n; value = None }) → FitsPacked v
none_fits n v true e = subst FitsPacked (sym (ap first_value e)) tt
none_fits n v false e = not_empty n v e

edit_fits_by : (n : NameNumber) (v : Option ObjectNumber) (new : Option Target) (c u b : Bool) → FitsOption new
    → one n v ≡ cond c (cond u (packed_set n new) [] ++ when b (record { name = n; value = None })) [] → FitsPacked v
edit_fits_by n v new false u b f e = not_empty n v e
edit_fits_by n v new true false b f e = none_fits n v b e
edit_fits_by n v None true true b f e = none_fits n v b e
edit_fits_by n v (Some (Object o)) true true b f e = subst FitsPacked (sym (ap first_value e)) f
edit_fits_by n v (Some (Symbolic m)) true true b f e = none_fits n v b e

module _ (r : List ℕ) (mode : PackedRefs) (i : ℕ) (x : Edit) (o : Option (Option ObjectNumber)) (l : Laid r) (ex : x ≡ the_row (view r) i)
    (eo : packed_list (name_in x) o ≡ packed_edit (view r) mode x) where
  pub edit_fits : (v : Option ObjectNumber) → i < length (rows_of (view r)) → o ≡ Some v → FitsPacked v
  unfolding packed_edit
  edit_fits v h e =
      let f : FitsRow x = subst FitsRow (sym ex) ((laid_image r l).1.row i h) in
      let g : one (name_in x) v ≡ packed_edit (view r) mode x = sym (ap (packed_list (name_in x)) e) ∙ eo in
      edit_fits_by (name_in x) v (new_value (change_in x)) (counts (view r) x) (packs_updates mode) (is_delete (change_in x) && is_packed (entry_of (view r) (name_in x)).packed) f.new g

  pub pack_none : o ≡ None
      → Became r (with_entries (view r) (apply_packed (packed_edit (view r) mode (the_row (view r) i)) (view r).entries))
  pack_none e =
      let g : packed_edit (view r) mode (the_row (view r) i) ≡ [] = ap (packed_edit (view r) mode) (sym ex) ∙ sym eo ∙ ap (packed_list (name_in x)) e in
      record { laid = l; seen = ap (λ (ps : List PackedEdit). with_entries (view r) (apply_packed ps (view r).entries)) (sym g) }

  pub pack_set : (v : Option ObjectNumber) (r' : List ℕ) → o ≡ Some v → Became r' (change_entry (put_packed v) (name_in x).0 (view r))
      → Became r' (with_entries (view r) (apply_packed (packed_edit (view r) mode (the_row (view r) i)) (view r).entries))
  pack_set v r' e b =
      let g : packed_edit (view r) mode (the_row (view r) i) ≡ one (name_in x) v =
      ap (packed_edit (view r) mode) (sym ex) ∙ sym eo ∙ ap (packed_list (name_in x)) e in
      record { laid = b.laid; seen = b.seen ∙ ap (λ (ps : List PackedEdit). with_entries (view r) (apply_packed ps (view r).entries)) (sym g) }

-- ---- the loop

packed_append : (ps qs : List PackedEdit) (es : List Entry) → apply_packed (ps ++ qs) es ≡ apply_packed qs (apply_packed ps es)
packed_append [] qs es = refl
packed_append (p ∷ ps) qs es = packed_append ps qs (change_at (put_packed p.value) p.name.0 es)

by_entry : (t : Store) (mode : PackedRefs) (y : Edit) (es : List Entry) → get_or es (name_in y).0 no_entry ≡ get_or t.entries (name_in y).0 no_entry
    → packed_edit (with_entries t es) mode y ≡ packed_edit t mode y
unfolding packed_edit counts
by_entry t mode y es e = rw e

-- a row of another name: its edit is as it was
other_edit : (t : Store) (mode : PackedRefs) (x y : Edit) → ((name_in x).0 ≡ (name_in y).0 → ⊥) → (name_in y).0 < count t
    → packed_edit (with_entries t (apply_packed (packed_edit t mode x) t.entries)) mode y ≡ packed_edit t mode y
unfolding apply
other_edit t mode x y d h = by_entry t mode y _ same
  where
    same : get_or (apply_packed (packed_edit t mode x) t.entries) (name_in y).0 no_entry ≡ get_or t.entries (name_in y).0 no_entry
    same =
        entry_after (write_packed (packed_edit t mode x) ∷ []) t (name_in y).0 h
        ∙ whole (quiet_step (other_packed (name_in y).0 x d t mode) (entry_at t (name_in y).0))

-- the packed write so far: what is left of it, by the store as it is, comes to the same
pub record Packing (r₀ : List ℕ) (mode : PackedRefs) (rows i : ℕ) (r : List ℕ) : Type 0 where
  pub laid : Laid r
  pub same : length r ≡ length r₀
  pub upto : i ≤ rows
  pub many : count (view r) ≡ count (view r₀)
  pub seen : view r ≡ with_entries (view r₀) (view r).entries
  pub left :
      apply_packed (collect (packed_edit (view r) mode) (drop i (rows_of (view r₀)))) (view r).entries
      ≡ apply_packed (packed_edits (view r₀) mode (rows_of (view r₀))) (view r₀).entries

pub packing_start : (r : List ℕ) (mode : PackedRefs) (rows : ℕ) → Laid r → Packing r mode rows 0 r
packing_start r mode rows l = record { laid = l; same = refl; upto = omega arith; many = refl; seen = refl; left = refl }

packing_rows : (r₀ : List ℕ) (mode : PackedRefs) (rows i : ℕ) (r : List ℕ) → Packing r₀ mode rows i r → rows_of (view r) ≡ rows_of (view r₀)
packing_rows r₀ mode rows i r p = ap (λ (s : Store). rows_of s) p.seen

pub packing_named : (r₀ : List ℕ) (mode : PackedRefs) (rows i : ℕ) (r : List ℕ) → Packing r₀ mode rows i r → Named (view r₀) → Named (view r)
packing_named r₀ mode rows i r p n =
    let e : rows_of (view r) ≡ rows_of (view r₀) = packing_rows r₀ mode rows i r p in
    record {
      named = λ j l. subst (λ (c : ℕ). (name_in (the_row (view r) j)).0 < c) (sym p.many)
          (subst (λ (xs : List Edit). (name_in (row_at xs j)).0 < count (view r₀)) (sym e) (n.named j (subst (λ (xs : List Edit). j < length xs) e l)));
    }

pub packing_place : (r₀ : List ℕ) (mode : PackedRefs) (rows i : ℕ) (r : List ℕ) → Packing r₀ mode rows i r → rows ≡ length (rows_of (view r₀)) → i < rows
    → i < length (rows_of (view r))
packing_place r₀ mode rows i r p e l =
    let f : length (rows_of (view r)) ≡ length (rows_of (view r₀)) = ap length (packing_rows r₀ mode rows i r p) in omega arith

pub packing_more : (r₀ : List ℕ) (mode : PackedRefs) (rows i : ℕ) (r r' : List ℕ) → Packing r₀ mode rows i r → Named (view r₀) → Apart (rows_of (view r₀))
    → rows ≡ length (rows_of (view r₀)) → i < rows → length r' ≡ length r
    → Became r' (with_entries (view r) (apply_packed (packed_edit (view r) mode (the_row (view r) i)) (view r).entries))
    → Packing r₀ mode rows (i + 1) r'
packing_more r₀ mode rows i r r' p n a er h el b =
    let rs : List Edit = rows_of (view r₀) in
    let t : Store = view r in
    let x : Edit = row_at rs i in
    let es : List Entry = apply_packed (packed_edit t mode x) t.entries in
    let g : i < length rs = omega arith in
    let b₁ : view r' ≡ with_entries t es =
    b.seen ∙ ap (λ (xs : List Edit). with_entries t (apply_packed (packed_edit t mode (row_at xs i)) t.entries)) (packing_rows r₀ mode rows i r p) in
    let be : (view r').entries ≡ es = ap (λ (s : Store). s.entries) b₁ in
    let stays : collect (packed_edit (view r') mode) (drop (suc i) rs) ≡ collect (packed_edit t mode) (drop (suc i) rs) =
    ap (λ (s : Store). collect (packed_edit s mode) (drop (suc i) rs)) b₁
    ∙ collect_same (packed_edit (with_entries t es) mode) (packed_edit t mode) no_row (drop (suc i) rs) (λ j l. later j l) in
    record {
      laid = b.laid;
      same = el ∙ p.same;
      upto = omega arith;
      many = ap length be ∙ applied_count (packed_edit t mode x) t.entries ∙ p.many;
      seen = b₁ ∙ ap (λ (s : Store). with_entries s es) p.seen ∙ ap (with_entries (view r₀)) (sym be);
      left =
          ap (λ (k : ℕ). apply_packed (collect (packed_edit (view r') mode) (drop k rs)) (view r').entries) (add-one i)
          ∙ ap₂ apply_packed stays be
          ∙ sym (packed_append (packed_edit t mode x) (collect (packed_edit t mode) (drop (suc i) rs)) t.entries)
          ∙ ap (λ (xs : List Edit). apply_packed (collect (packed_edit t mode) xs) t.entries) (sym (drop-cons rs i no_row g))
          ∙ p.left;
    }
  where
    later : (j : ℕ) → j < length (drop (suc i) (rows_of (view r₀)))
        → packed_edit (with_entries (view r) (apply_packed (packed_edit (view r) mode (the_row (view r₀) i)) (view r).entries)) mode (get_or (drop (suc i) (rows_of (view r₀))) j no_row)
        ≡ packed_edit (view r) mode (get_or (drop (suc i) (rows_of (view r₀))) j no_row)
    later j l =
        let m : suc i + j < length (rows_of (view r₀)) = let d : length (drop (suc i) (rows_of (view r₀))) ≡ length (rows_of (view r₀)) - suc i = length-drop (suc i) (rows_of (view r₀)) in omega arith in
        let y : Edit = the_row (view r₀) (suc i + j) in
        let k : (name_in y).0 < count (view r₀) = n.named (suc i + j) m in
        subst (λ (z : Edit). packed_edit (with_entries (view r) (apply_packed (packed_edit (view r) mode (the_row (view r₀) i)) (view r).entries)) mode z ≡ packed_edit (view r) mode z)
        (sym (get_or-drop (suc i) (rows_of (view r₀)) j no_row))
        (other_edit (view r) mode (the_row (view r₀) i) y (a.apart i (suc i + j) (omega arith) m (λ q. absurd (omega arith)))
        (subst (λ (c : ℕ). (name_in y).0 < c) (sym p.many) k))

pub packing_end : (r₀ : List ℕ) (mode : PackedRefs) (rows i : ℕ) (r : List ℕ) → Packing r₀ mode rows i r → rows ≡ length (rows_of (view r₀)) → rows ≤ i
    → mode ≡ mode_of (view r₀)
    → Became r (with_entries (view r₀) (apply_packed (packed_edits (view r₀) (mode_of (view r₀)) (rows_of (view r₀))) (view r₀).entries))
packing_end r₀ mode rows i r p e l em =
    let b : length (rows_of (view r₀)) ≤ i = omega arith in
    record {
      laid = p.laid;
      seen =
          p.seen
          ∙ ap (with_entries (view r₀))
          (ap (λ (xs : List Edit). apply_packed (collect (packed_edit (view r) mode) xs) (view r).entries) (sym (drop_of_length-le (rows_of (view r₀)) b))
          ∙ p.left
          ∙ ap (λ (m : PackedRefs). apply_packed (packed_edits (view r₀) m (rows_of (view r₀))) (view r₀).entries) em);
    }
