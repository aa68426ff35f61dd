-- What each way through a function of one row says of the definitions. Assumes nothing.
use Rattle.std.specs.Prelude.{Option, Some, None}
use mathlib.Core.Path.{◌≡◌, refl, sym, ap, ◌∙◌}
use mathlib.Core.Bool.{Bool, true, false, not}
use mathlib.Core.List.{List, [], ◌∷◌, map}
use Prim.Native.Nat.{ℕ, ◌+◌, ◌<◌, ◌≤◌}
use native.Mathlib.Numerals.{add-one}
use native.Mathlib.Omega.{arith}
use lib.ListN.{length, drop, get_or-eq_default, drop_of_length-le}
use lib.Seq.{drop-cons}
use borrow.Author.Tests.{not-true, not-false}
use Rattle.target.specs.declared.NameNumber.{NameNumber}
use Rattle.target.specs.declared.ObjectNumber.{ObjectNumber}
use Rattle.target.specs.declared.Target.{Target}
use Rattle.transaction.specs.declared.RefLog.{RefLog}
use Rattle.transaction.specs.declared.RefLog.TheVariants.{Only}
use Rattle.transaction.specs.declared.LogChange.{LogChange}
use Rattle.transaction.specs.declared.PreviousValue.{PreviousValue}
use Rattle.transaction.specs.declared.PreviousValue.TheVariants.{Any}
use Rattle.transaction.specs.declared.Change.{Change}
use Rattle.transaction.specs.declared.Change.TheVariants.{Update, Delete}
use Rattle.transaction.specs.declared.RefEdit.{RefEdit}
use Rattle.transaction.specs.declared.Edit.{Edit}
use Rattle.model.specs.declared.Loose.{Loose}
use Rattle.model.specs.Basic.{any}
use Rattle.model.specs.Store.{Store, Entry, no_entry, no_row, count, entry_of}
use Rattle.model.specs.Rows.{name_in, change_in, row_at}
use Rattle.model.specs.Split.{link_in, parent_change, settled_with, child_of}
use Rattle.splits.specs.Round.{hide, followed, is_there, leads_on}

-- ---- links

module _ (s : Store) (name : NameNumber) where
  pub no_entry_lem : (m k : ℕ) → k ≡ name.0 → m ≡ count s → m ≤ k → entry_of s name ≡ no_entry
  no_entry_lem m k ek em l =
      let b : count s ≤ name.0 = rw (ek, em) at l in
      get_or-eq_default s.entries no_entry b

  pub link_none : (m k : ℕ) → k ≡ name.0 → m ≡ count s → m ≤ k → None ≡ link_in (entry_of s name).loose
  link_none m k ek em l = sym (ap (λ (x : Entry). link_in x.loose) (no_entry_lem m k ek em l))

  pub link_at : (l : Loose) (r : Option NameNumber) → l ≡ (entry_of s name).loose → r ≡ link_in l → r ≡ link_in (entry_of s name).loose
  link_at l r e h = h ∙ ap link_in e

module _ (s : Store) (follow : Bool) (row : Edit) where
  pub not_followed : not follow ≡ true → None ≡ followed s follow row
  not_followed t = rw (not-true follow t)

  pub is_followed : (r : Option NameNumber) → not follow ≡ false → r ≡ link_in (entry_of s (name_in row)).loose → r ≡ followed s follow row
  is_followed r t h = rw (not-false follow t) h

-- ---- R1

pub parent_update : (c : Change) (log : LogChange) (expected : PreviousValue) (new : Target) → c ≡ Update log expected new
    → Update (record { mode = Only; force_create_reflog = log.force_create_reflog; message = log.message }) Any new ≡ parent_change c
parent_update c log expected new e = rw e

pub parent_delete : (c : Change) (expected : PreviousValue) (log : RefLog) → c ≡ Delete expected log → Delete expected Only ≡ parent_change c
parent_delete c expected log e = rw e

with_update : RefEdit → Edit → Edit
with_update u row = record { update = u; parent_index = row.parent_index; leaf_referent_previous_oid = row.leaf_referent_previous_oid }

pub settled_is : (c : Change) (row : Edit) (u : RefEdit) → u ≡ record { change = c; name = name_in row; deref = false }
    → record { update = u; parent_index = row.parent_index; leaf_referent_previous_oid = row.leaf_referent_previous_oid } ≡ settled_with c row
unfolding with_update
settled_is c row u e = ap (λ (u : RefEdit). with_update u row) e

pub child_is : (n : NameNumber) (i : ℕ) (row : Edit) (u : RefEdit) (o : ObjectNumber) → u ≡ record { change = change_in row; name = n; deref = false } → o.0 ≡ 0
    → (record { update = u; parent_index = Some i; leaf_referent_previous_oid = o } ∷ []) ≡ map hide (child_of (Some n) i row)
child_is n i row u o e f = ap (λ (u : RefEdit). one u o) e ∙ ap (λ (x : ℕ). one (record { change = change_in row; name = n; deref = false }) (record { 0 = x })) f
  where
    one : RefEdit → ObjectNumber → List Edit
    one u o = record { update = u; parent_index = Some i; leaf_referent_previous_oid = o } ∷ []

-- ---- whether a row leads on

module _ (s : Store) (rows : List Edit) (k : ℕ) (ek : k ≡ length rows) (i : ℕ) (t : Bool) (w : leads_on s i rows ≡ t) where
  pub leads_none : k ≤ i → false ≡ t
  unfolding leads_on
  leads_none h = let g : length rows ≤ i = omega arith in ap (any (λ (r : Edit). is_there (followed s true r))) (sym (drop_of_length-le rows g)) ∙ w

  module _ (o : Option NameNumber) (x : Edit) (h : i < k) (ex : x ≡ row_at rows i) (eo : o ≡ followed s true x) where
    leads_at : leads_on s i rows ≡ any (λ (r : Edit). is_there (followed s true r)) (x ∷ drop (i + 1) rows)
    unfolding leads_on
    leads_at = let g : i < length rows = omega arith in rw (add-one, ex, drop-cons rows i no_row)

    there : (o : Option NameNumber) → Rattle.std.specs.Option.is_some o ≡ is_there o
    there None = refl
    there (Some n) = refl

    leads_by : (b : Bool) → b ≡ Rattle.std.specs.Option.is_some o → b ≡ is_there (followed s true x)
    leads_by b e = e ∙ there o ∙ ap is_there eo

    pub leads_here : (b : Bool) → b ≡ Rattle.std.specs.Option.is_some o → b ≡ true → true ≡ t
    leads_here b eb e = rw (← leads_by b eb, e) at (sym leads_at) ∙ w

    pub leads_later : (b : Bool) → b ≡ Rattle.std.specs.Option.is_some o → b ≡ false → leads_on s (i + 1) rows ≡ t
    unfolding leads_on
    leads_later b eb e = rw (← leads_by b eb, e) at (sym leads_at) ∙ w
