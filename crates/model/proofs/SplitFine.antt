-- The rows that splitting leaves are fine by themselves, and nothing is their leaf-previous yet. Assumes nothing.
use Rattle.std.specs.Prelude.{Some, Ok}
use mathlib.Core.Path.{◌≡◌, refl, ap}
use mathlib.Core.Bool.{true, not}
use mathlib.Core.List.{List, map}
use Prim.Native.Nat.{ℕ, ◌<◌, ◌^◌}
use lib.ListN.{length}
use lib.Dec.{lit<}
use borrow.Author.Tests.{lt-ltb, le-leb}
use Rattle.transaction.specs.declared.RefEdit.{RefEdit}
use Rattle.transaction.specs.declared.Edit.{Edit}
use Rattle.transaction.specs.Change.{row_of}
use Rattle.model.specs.Store.{Store, count}
use Rattle.model.specs.Rows.{row_at, ancestors}
use Rattle.model.specs.EditList.{edits_of}
use Rattle.model.specs.Split.{splits, one_name_one_edit}
use Rattle.model.specs.Prepare.{registered}
use Rattle.model.specs.Fine.{Fine, fine_row}
use Rattle.model.proofs.Rules.{true_both}
use Rattle.model.proofs.RowsFine.{RowsFine}
use Rattle.model.proofs.EditsFine.{edits_fine}
use Rattle.model.proofs.RoundsFine.{Settled, Through, split_through}
use Rattle.model.proofs.Distinct.{rows_apart}

settled_fine : (n : ℕ) (rows : List Edit) (i : ℕ) → Settled n rows i (row_at rows i) → fine_row n rows i ≡ true
unfolding fine_row ancestors
settled_fine n rows i f =
    let leaf : (row_at rows i).leaf_referent_previous_oid.0 < 2 ^ 64 = rw f.ready.leaf (lit< tt) in
    true_both (lt-ltb _ _ f.ready.name)
    (true_both (ap not f.deref)
    (true_both (lt-ltb _ _ f.ready.change.message)
    (true_both f.ready.change.previous
    (true_both f.ready.change.new
    (true_both f.parent
    (true_both (le-leb _ _ (f.few i))
    (true_both (lt-ltb _ _ leaf) refl)))))))

pub split_fine : (s : Store) → Fine s → (list : List ℕ) (edits : List RefEdit) (split : List Edit)
    → edits_of list ≡ Some edits → registered s edits ≡ Ok tt → splits s (map row_of edits) ≡ Ok split
    → one_name_one_edit s split ≡ Ok tt → RowsFine (count s) split
split_fine s f list edits split e g p q =
    let t : Through (count s) split = split_through s f edits split (edits_fine s list edits e g) p in
    record {
      bounded = t.bounded;
      each = λ i h. settled_fine (count s) split i (t.settled i h);
      distinct = rows_apart s split q;
    }

pub split_leaf : (s : Store) → Fine s → (list : List ℕ) (edits : List RefEdit) (split : List Edit)
    → edits_of list ≡ Some edits → registered s edits ≡ Ok tt → splits s (map row_of edits) ≡ Ok split
    → (i : ℕ) → i < length split → (row_at split i).leaf_referent_previous_oid.0 ≡ 0
split_leaf s f list edits split e g p i h = ((split_through s f edits split (edits_fine s list edits e g) p).settled i h).ready.leaf
