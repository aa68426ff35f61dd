-- What each way through the judgement says of the definitions, and the row with an existing value in it. Assumes nothing.
use Rattle.std.specs.Prelude.{Option, Some, None, Result}
use Rattle.model.specs.declared.Refusal.{Refusal}
use mathlib.Core.Path.{◌≡◌, refl, ap, ◌∙◌}
use Prim.Native.Nat.{ℕ}
use Rattle.target.specs.declared.NameNumber.{NameNumber}
use Rattle.target.specs.declared.ObjectNumber.{ObjectNumber}
use Rattle.target.specs.declared.Target.{Target}
use Rattle.target.specs.declared.Target.TheVariants.{Object}
use Rattle.transaction.specs.declared.RefLog.{RefLog}
use Rattle.transaction.specs.declared.LogChange.{LogChange}
use Rattle.transaction.specs.declared.PreviousValue.{PreviousValue}
use Rattle.transaction.specs.declared.PreviousValue.TheVariants.{MustExist, MustNotExist, MustExistAndMatch, ExistingMustMatch}
use Rattle.transaction.specs.declared.Change.{Change}
use Rattle.transaction.specs.declared.Change.TheVariants.{Update, Delete}
use Rattle.transaction.specs.declared.RefEdit.{RefEdit}
use Rattle.transaction.specs.declared.Edit.{Edit}
use Rattle.model.specs.declared.Refusal.TheVariants as no
use Rattle.model.specs.Rows.{name_in, change_in}
use Rattle.model.specs.Judge.{must_match, judge_delete, judge_update, judge}
use Rattle.model.specs.Prepare.{observing, observed}
use Rattle.turns.specs.Judged.{judged_option}

-- ---- what exists must match, whether it is deleted or updated

may_both : (n : NameNumber) (t new : Target) (x : Option Target) → judge_delete n (ExistingMustMatch t) x ≡ judge_update n (ExistingMustMatch t) new x
may_both n t new None = refl
may_both n t new (Some u) = refl

-- ---- a delete, by what is expected and what exists

module _ (n : NameNumber) (p : PreviousValue) (x : Option Target) where
  pub delete_absent : p ≡ MustExist → x ≡ None → Some (no.DeleteReferenceMustExist n) ≡ judge_delete n p x
  delete_absent e f = rw (e, f)

  pub delete_not : p ≡ MustNotExist → Some (no.DeleteMustNotExist n) ≡ judge_delete n p x
  delete_not e = rw e

  module _ (t : Target) where
    pub delete_match_absent : p ≡ MustExistAndMatch t → x ≡ None → Some (no.DeleteReferenceMustExist n) ≡ judge_delete n p x
    delete_match_absent e f = rw (e, f)

    module _ (r : (Result (Unit {0}) Refusal)) where
      pub delete_match : (u : Target) → p ≡ MustExistAndMatch t → x ≡ Some u → judged_option r ≡ must_match n t u → judged_option r ≡ judge_delete n p x
      delete_match u e f h = rw (e, f) h

      pub delete_may : p ≡ ExistingMustMatch t → judged_option r ≡ judge_delete n (ExistingMustMatch t) x → judged_option r ≡ judge_delete n p x
      delete_may e h = rw e h

-- ---- an update

module _ (n : NameNumber) (p : PreviousValue) (new : Target) (x : Option Target) where
  pub update_absent : (o : ObjectNumber) → p ≡ MustExist → x ≡ None → o.0 ≡ 0 → Some (no.MustExist n (Object o)) ≡ judge_update n p new x
  update_absent o e f g = rw (e, f) (ap (λ (k : ℕ). Some (no.MustExist n (Object (record { 0 = k })))) g)

  pub update_not : (u : Target) (r : (Result (Unit {0}) Refusal)) → p ≡ MustNotExist → x ≡ Some u
      → judged_option r ≡ judge_update n MustNotExist new (Some u) → judged_option r ≡ judge_update n p new x
  update_not u r e f h = rw (e, f) h

  module _ (t : Target) where
    pub update_match_absent : p ≡ MustExistAndMatch t → x ≡ None → Some (no.MustExist n t) ≡ judge_update n p new x
    update_match_absent e f = rw (e, f)

    module _ (r : (Result (Unit {0}) Refusal)) where
      pub update_match : (u : Target) → p ≡ MustExistAndMatch t → x ≡ Some u → judged_option r ≡ must_match n t u → judged_option r ≡ judge_update n p new x
      update_match u e f h = rw (e, f) h

      pub update_may : p ≡ ExistingMustMatch t → judged_option r ≡ judge_delete n (ExistingMustMatch t) x → judged_option r ≡ judge_update n p new x
      update_may e h = rw e (h ∙ may_both n t new x)

-- ---- either

module _ (n : NameNumber) (c : Change) (x : Option Target) (p : PreviousValue) (r : (Result (Unit {0}) Refusal)) where
  pub judge_update_is : (log : LogChange) (new : Target) → c ≡ Update log p new → judged_option r ≡ judge_update n p new x → judged_option r ≡ judge n c x
  judge_update_is log new e h = rw e h

  pub judge_delete_is : (log : RefLog) → c ≡ Delete p log → judged_option r ≡ judge_delete n p x → judged_option r ≡ judge n c x
  judge_delete_is log e h = rw e h

-- ---- an existing value in place of what was expected

module _ (c : Change) (x : Option Target) (t : Target) (p : PreviousValue) where
  pub observing_update : (log : LogChange) (new : Target) → x ≡ Some t → c ≡ Update log p new → Update log (MustExistAndMatch t) new ≡ observing c x
  observing_update log new e f = rw (e, f)

  pub observing_delete : (log : RefLog) → x ≡ Some t → c ≡ Delete p log → Delete (MustExistAndMatch t) log ≡ observing c x
  observing_delete log e f = rw (e, f)

pub observed_is : (row : Edit) (x : Option Target) (c : Change) (u : RefEdit) → c ≡ observing (change_in row) x
    → u ≡ record { change = c; name = name_in row; deref = row.update.deref }
    → record { update = u; parent_index = row.parent_index; leaf_referent_previous_oid = row.leaf_referent_previous_oid } ≡ observed row x
observed_is row x c u e f = ap with_update (f ∙ ap with_change e)
  where
    with_change : Change → RefEdit
    with_change c = record { change = c; name = name_in row; deref = row.update.deref }

    with_update : RefEdit → Edit
    with_update u = record { update = u; parent_index = row.parent_index; leaf_referent_previous_oid = row.leaf_referent_previous_oid }
