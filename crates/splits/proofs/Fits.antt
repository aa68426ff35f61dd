-- What is written into the table fits its slot: settled rows, children, and the rows of edits. Assumes nothing.
use Rattle.std.specs.Prelude.{Option, Some, None}
use mathlib.Core.Path.{◌≡◌, refl, sym, ap, subst, ◌∙◌}
use mathlib.Core.Bool.{Bool, true, false}
use mathlib.Core.List.{List, [], ◌∷◌, map}
use Prim.Native.Nat.{ℕ, suc, ◌<◌, ◌≤◌, ◌^◌}
use native.Mathlib.Nat.{le_trans, le_of_eq}
use native.Mathlib.Omega.{arith}
use lib.ListN.{length, get_or-eq_default}
use lib.Dec.{ltb}
use borrow.Author.Tests.{ltb-true, ltb-false}
use Rattle.target.specs.declared.NameNumber.{NameNumber}
use Rattle.target.specs.declared.Target.TheVariants.{Object, Symbolic}
use Rattle.transaction.specs.declared.Change.{Change}
use Rattle.transaction.specs.declared.Change.TheVariants.{Update, Delete}
use Rattle.transaction.specs.declared.Edit.{Edit}
use Rattle.transaction.specs.Change.{message_of, new_value, previous_value}
use Rattle.model.specs.declared.Loose.{Loose}
use Rattle.model.specs.declared.Loose.TheVariants as loose
use Rattle.model.specs.Store.{Entry, no_entry, count, entry_of, rows_in}
use Rattle.model.specs.Rows.{name_in, change_in, row_at}
use Rattle.model.specs.Split.{link_in, parent_change, settled, child_of}
use Rattle.model.proofs.Binds.{no_name}
use Rattle.slots.specs.Values.{FitsLoose}
use Rattle.slots.specs.Row.{FitsRow, FitsOption}
use Rattle.region.specs.Region.{view, Laid}
use Rattle.region.proofs.Decode.{laid_image}
use Rattle.splits.specs.Round.{hide, followed}

pub fits_at : (r : List ℕ) (l : Laid r) (i : ℕ) (x : Edit) → i < length (rows_in (view r).prepared) → x ≡ row_at (rows_in (view r).prepared) i → FitsRow x
fits_at r l i x h e = subst FitsRow (sym e) ((laid_image r l).1.row i h)

-- ---- a settled row

parent_was : (c : Change) → FitsOption (previous_value c) → FitsOption (previous_value (parent_change c))
parent_was (Update log expected new) f = tt
parent_was (Delete expected log) f = f

parent_new : (c : Change) → new_value (parent_change c) ≡ new_value c
parent_new (Update log expected new) = refl
parent_new (Delete expected log) = refl

parent_message : (c : Change) → message_of (parent_change c) ≡ message_of c
parent_message (Update log expected new) = refl
parent_message (Delete expected log) = refl

fits_settled : (o : Option NameNumber) (r : Edit) → FitsRow r → FitsRow (settled o r)
fits_settled None r f =
    record { name = f.name; deref = refl; message = f.message; was = f.was; new = f.new; parent = f.parent; leaf = f.leaf }
fits_settled (Some n) r f =
    record {
      name = f.name;
      deref = refl;
      message = le_trans (le_of_eq (ap suc (parent_message (change_in r)))) f.message;
      was = parent_was (change_in r) f.was;
      new = subst FitsOption (sym (parent_new (change_in r))) f.new;
      parent = f.parent;
      leaf = f.leaf;
    }

pub fits_kept : (r : List ℕ) (l : Laid r) (i : ℕ) (x y : Edit) (o : Option NameNumber) → i < length (rows_in (view r).prepared) → x ≡ row_at (rows_in (view r).prepared) i
    → y ≡ settled o x → FitsRow y
fits_kept r l i x y o h e f = subst FitsRow (sym f) (fits_settled o x (fits_at r l i x h e))

-- ---- a child

pub fits_child : (x c : Edit) (n : NameNumber) (i : ℕ) → FitsRow x → n.0 < 2 ^ 16 → i < 160 → (c ∷ []) ≡ map hide (child_of (Some n) i x) → FitsRow c
fits_child x c n i f h g e =
    let q : c ≡ hide (record { update = record { change = change_in x; name = n; deref = true }; parent_index = Some i; leaf_referent_previous_oid = record { 0 = 0 } }) = cc in
    subst FitsRow (sym q) (record { name = h; deref = refl; message = f.message; was = f.was; new = f.new; parent = omega arith; leaf = omega arith })

loose_fits : (v : Loose) (n : NameNumber) → FitsLoose v → link_in v ≡ Some n → n.0 < 2 ^ 16
loose_fits loose.None n f e = absurd (no_name e)
loose_fits (loose.Target (Object o)) n f e = absurd (no_name e)
loose_fits (loose.Target (Symbolic m)) n f e = let q : m ≡ n = cc in rw (← q) f
loose_fits loose.Broken n f e = absurd (no_name e)

link_fits : (r : List ℕ) → Laid r → (name n : NameNumber) → link_in (entry_of (view r) name).loose ≡ Some n → n.0 < 2 ^ 16
link_fits r l name n e = go (ltb name.0 (count (view r))) refl
  where
    go : (b : Bool) → ltb name.0 (count (view r)) ≡ b → n.0 < 2 ^ 16
    go true p = loose_fits (entry_of (view r) name).loose n ((laid_image r l).1.entry name.0 (ltb-true name.0 (count (view r)) p)).1 e
    go false p =
        let h : count (view r) ≤ name.0 = ltb-false name.0 (count (view r)) p in
        absurd (no_name (sym (ap (λ (x : Entry). link_in x.loose) (get_or-eq_default (view r).entries no_entry h)) ∙ e))

pub name_fits : (r : List ℕ) → Laid r → (follow : Bool) (x : Edit) (o : Option NameNumber) (n : NameNumber) → o ≡ followed (view r) follow x → o ≡ Some n → n.0 < 2 ^ 16
name_fits r l true x o n e f = link_fits r l (name_in x) n (sym e ∙ f)
name_fits r l false x o n e f = absurd (no_name (sym e ∙ f))
