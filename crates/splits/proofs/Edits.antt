-- The rows of edits: they fit the table, and how far the loops over the edits are. Assumes nothing.
use Rattle.std.specs.Prelude.{Option, Some, None}
use Rattle.target.specs.declared.Target.{Target}
use mathlib.Core.Path.{◌≡◌, refl, sym, ap, ◌∙◌, subst}
use mathlib.Core.Bool.{Bool, true, false}
use mathlib.Core.List.{List, [], ◌∷◌, ◌++◌}
use Prim.Native.Nat.{ℕ, ◌+◌, ◌-◌, ◌<◌, ◌≤◌, ◌^◌}
use native.Mathlib.Numerals.{add-one}
use native.Mathlib.Omega.{arith}
use lib.ListN.{length, get_or, take, replicate, length-append, length-map, length-replicate, get_or-map}
use lib.Seq.{take-suc, take_all}
use lib.Dec.{ltb}
use borrow.Author.Tests.{ltb-true}
use Rattle.target.specs.declared.Target.TheVariants.{Object, Symbolic}
use Rattle.transaction.specs.declared.RefEdit.{RefEdit}
use Rattle.transaction.specs.declared.Edit.{Edit}
use Rattle.transaction.specs.Change.{previous_value, new_value, row_of}
use Rattle.model.specs.declared.Lock.TheVariants.{Free}
use Rattle.model.specs.declared.WriteReflog.TheVariants.{Disable}
use Rattle.model.specs.Basic.{collect}
use Rattle.model.specs.EditList.{edits_of, numbers_of, first_out}
use Rattle.model.specs.Store.{Store, no_entry, rows_in, is_prepared, with_rows}
use Rattle.model.specs.Fine.{fine_option}
use Rattle.model.specs.Prepare.{registered, or_not_registered}
use Rattle.model.proofs.All.{All, all_at}
use Rattle.model.proofs.Rules.{both_true}
use Rattle.model.proofs.EditsFine.{FineEdit, edits_fine}
use Rattle.slots.specs.Row.{FitsRow, FitsOption}
use Rattle.region.specs.Region.{view, Laid, Became}
use Rattle.edits.proofs.Numbers.{is_in}
use Rattle.edits.specs.Edits.{edits_in, no_edit, Registered}
use Rattle.splits.specs.Round.{hide, hidden_rows, stepped, steps}
use Rattle.writers.proofs.OtherRows.{own_rows, other_rows, rows_seen, still_prepared}
use Rattle.splits.proofs.Table.{Far, far_start, far_more, far_end}
use Rattle.splits.proofs.Model.{map_append, asked}

-- ---- what an edit says fits

option_fits : (n : ℕ) (t : Option Target) → n ≤ 256 → fine_option n t ≡ true → FitsOption t
option_fits n None h e = tt
option_fits n (Some (Object o)) h e = let b = both_true (ltb 0 o.0) (ltb o.0 (2 ^ 64)) e in (ltb-true _ _ b.0, ltb-true _ _ b.1)
option_fits n (Some (Symbolic m)) h e = let l : m.0 < n = ltb-true m.0 n e in omega arith

-- the model speaks of a store's names
named : ℕ → Store
named n = record { entries = replicate n no_entry; packed_lock = Free; lines = []; setting = Disable; prepared = None }

registered_fine : (l : List ℕ) (g : Registered l) → All (FineEdit g.names) (edits_in l)
unfolding named edits_in registered
registered_fine l g =
    let e : length (replicate g.names no_entry) ≡ g.names = length-replicate g.names no_entry in
    subst (λ (n : ℕ). All (FineEdit n) (edits_in l)) e
    (edits_fine (named g.names) l (edits_in l) (is_in (edits_of l) [] g.formed)
    (ap (λ (n : ℕ). or_not_registered (first_out n (collect numbers_of (edits_in l)))) e ∙ ap or_not_registered g.all))

pub fits_edit : (l : List ℕ) (i n : ℕ) (e u : RefEdit) (x : Edit) → Registered l → i < n → (n ≡ length (edits_in l)) × (n ≤ 32) → e ≡ get_or (edits_in l) i no_edit
    → u ≡ record { change = e.change; name = e.name; deref = false } → x ≡ row_of u → FitsRow x
fits_edit l i n e u x g h c ee eu ex =
    let f : FineEdit g.names e = subst (FineEdit g.names) (sym ee) (all_at (registered_fine l g) i no_edit (omega (arith, c.0))) in
    let few : g.names ≤ 256 = g.few in
    subst FitsRow (sym (ex ∙ ap row_of eu))
    (record {
      name = omega (arith, f.name);
      deref = refl;
      message = f.change.message;
      was = option_fits g.names (previous_value e.change) few f.change.previous;
      new = option_fits g.names (new_value e.change) few f.change.new;
      parent = tt;
      leaf = omega arith;
    })

-- ---- the rows of edits, one after the other

pub record Added (es : List RefEdit) (r₀ : List ℕ) (i : ℕ) (r : List ℕ) : Type 0 where
  pub laid : Laid r
  pub same : length r ≡ length r₀
  pub prepared : is_prepared (view r).prepared ≡ true
  pub upto : i ≤ length es
  pub many : length (rows_in (view r).prepared) ≡ i
  pub rows : rows_in (view r).prepared ≡ hidden_rows (take i es)
  pub seen : view r ≡ with_rows (view r₀) (rows_in (view r).prepared)

module _ (es : List RefEdit) where
  pub added_start : (r : List ℕ) → Laid r → is_prepared (view r).prepared ≡ true → rows_in (view r).prepared ≡ [] → Added es r 0 r
  added_start r l y e =
      record { laid = l; same = refl; prepared = y; upto = omega arith; many = ap length e; rows = e; seen = own_rows (view r) }

  module _ (r₀ r : List ℕ) (i n : ℕ) (f : Added es r₀ i r) (c : (n ≡ length es) × (n ≤ 32)) where
    pub added_more : (r' : List ℕ) (e u : RefEdit) (x : Edit) → i < n → e ≡ get_or es i no_edit
        → u ≡ record { change = e.change; name = e.name; deref = false } → x ≡ row_of u → length r' ≡ length r
        → Became r' (with_rows (view r) (rows_in (view r).prepared ++ (x ∷ []))) → Added es r₀ (i + 1) r'
    added_more r' e u x h ee eu ex el w =
        let l : List Edit = rows_in (view r).prepared in
        let g : i < length es = omega (arith, c.0) in
        let e₁ : rows_in (view r').prepared ≡ l ++ (x ∷ []) = rows_seen r' (view r) _ w f.prepared in
        let e₂ : x ≡ hide (row_of (get_or es i no_edit)) = ex ∙ ap row_of eu ∙ ap (λ (e : RefEdit). hide (row_of e)) ee in
        let e₃ : take (i + 1) es ≡ take i es ++ (get_or es i no_edit ∷ []) = rw add-one (take-suc es i no_edit g) in
        record {
          laid = w.laid;
          same = el ∙ f.same;
          prepared = still_prepared r' (view r) _ w f.prepared;
          upto = omega arith;
          many = ap length e₁ ∙ length-append l (x ∷ []) ∙ ap (λ (k : ℕ). k + 1) f.many;
          rows =
              e₁
              ∙ ap (λ (l : List Edit). l ++ (x ∷ [])) f.rows
              ∙ ap (λ (x : Edit). hidden_rows (take i es) ++ (x ∷ [])) e₂
              ∙ sym (map_append (λ (e : RefEdit). hide (row_of e)) (take i es) (get_or es i no_edit ∷ []))
              ∙ ap hidden_rows (sym e₃);
          seen = w.seen ∙ other_rows (view r₀) (view r) l (l ++ (x ∷ [])) f.seen ∙ ap (with_rows (view r₀)) (sym e₁);
        }

    pub added_end : n ≤ i → Became r (with_rows (view r₀) (hidden_rows es))
    added_end h =
        let g : length es ≤ i = omega (arith, c.0) in
        record { laid = f.laid; seen = f.seen ∙ ap (with_rows (view r₀)) (f.rows ∙ ap hidden_rows (take_all i es g)) }

-- ---- the first round: each row is followed if its edit says so

module _ (es : List RefEdit) (end : ℕ) where
  pub first_start : (r : List ℕ) → Laid r → is_prepared (view r).prepared ≡ true → (end ≡ length es) × (end ≤ 32)
      → length (rows_in (view r).prepared) ≡ length es
      → Far (asked es) end 0 r 0 r
  first_start r l y c e = far_start (asked es) end 0 r l y (length-map es (λ (e : RefEdit). e.deref) ∙ sym c.0) (omega (arith, c.0))

  module _ (r₀ r : List ℕ) (i : ℕ) (f : Far (asked es) end 0 r₀ i r) where
    pub first_more : (r' : List ℕ) (b : Bool) → i < end → b ≡ (get_or es i no_edit).deref → length r' ≡ length r
        → Became r' (with_rows (view r) (stepped (view r) b i (rows_in (view r).prepared)))
        → Far (asked es) end 0 r₀ (i + 1) r'
    first_more r' b h eb el w =
        let z : i ≡ i - 0 = omega arith in
        far_more (asked es) end 0 r₀ r i f r' b (omega arith)
        (eb ∙ sym (get_or-map (λ (e : RefEdit). e.deref) es i no_edit) ∙ ap (λ (k : ℕ). get_or (asked es) k false) z) el w

    pub first_end : end ≤ i → Became r (with_rows (view r₀) (steps (view r₀) (asked es) 0 (rows_in (view r₀).prepared)))
    first_end h = far_end (asked es) end 0 r₀ r i f (omega arith)
