-- The derived `==` of an edit and of its parts is what the definitions of specs/Same.antt say.
-- Assumes nothing.
use mathlib.Core.Path.{◌≡◌, refl}
use mathlib.Core.Bool.{Bool, ◌&&◌}
use Rattle.std.proofs.Math.Bool.{and_assoc}
use Rattle.target.specs.declared.Target.{Target}
use Rattle.target.specs.declared.Target.TheVariants.{Object, Symbolic}
use Rattle.target.specs.Target.{same}
use Rattle.target.specs.contracts.TargetPartialEq.TheImpl as target
use Rattle.transaction.specs.declared.RefLog.{RefLog}
use Rattle.transaction.specs.declared.RefLog.TheVariants.{AndReference, Only}
use Rattle.transaction.specs.declared.LogChange.{LogChange}
use Rattle.transaction.specs.declared.PreviousValue.{PreviousValue}
use Rattle.transaction.specs.declared.PreviousValue.TheVariants.{Any, MustExist, MustNotExist, MustExistAndMatch, ExistingMustMatch}
use Rattle.transaction.specs.declared.Change.{Change}
use Rattle.transaction.specs.declared.Change.TheVariants.{Update, Delete}
use Rattle.transaction.specs.declared.RefEdit.{RefEdit}
use Rattle.transaction.specs.Same.{same_ref_log, same_log_change, same_previous, same_change, same_ref_edit}
use Rattle.transaction.specs.contracts.RefLogPartialEq.TheImpl as ref_log
use Rattle.transaction.specs.contracts.LogChangePartialEq.TheImpl as log_change
use Rattle.transaction.specs.contracts.PreviousValuePartialEq.TheImpl as previous
use Rattle.transaction.specs.contracts.ChangePartialEq.TheImpl as change
use Rattle.transaction.specs.contracts.RefEditPartialEq.TheImpl as ref_edit

-- tests of parts that answer the same, in two and in three, however they are grouped
of_two : {p p' q q' : Bool} → p ≡ p' → q ≡ q' → (p && q) ≡ (p' && q')
of_two e f = cc

of_three : {p p' q q' r r' : Bool} → p ≡ p' → q ≡ q' → r ≡ r' → (p && (q && r)) ≡ (p' && q' && r')
of_three {p} {p'} {q} {q'} {r} {r'} e f g = let h = and_assoc p' q' r' in cc

pub target_same : (a b : Target) → (target.ghosts).eq a b ≡ same a b
target_same (Object a) (Object b) = refl
target_same (Object a) (Symbolic b) = refl
target_same (Symbolic a) (Object b) = refl
target_same (Symbolic a) (Symbolic b) = refl

pub ref_log_same : (a b : RefLog) → (ref_log.ghosts).eq a b ≡ same_ref_log a b
ref_log_same AndReference AndReference = refl
ref_log_same AndReference Only = refl
ref_log_same Only AndReference = refl
ref_log_same Only Only = refl

pub log_change_same : (a b : LogChange) → (log_change.ghosts).eq a b ≡ same_log_change a b
log_change_same a b = of_three (ref_log_same a.mode b.mode) refl refl

pub previous_same : (a b : PreviousValue) → (previous.ghosts).eq a b ≡ same_previous a b
previous_same Any Any = refl
previous_same Any MustExist = refl
previous_same Any MustNotExist = refl
previous_same Any (MustExistAndMatch u) = refl
previous_same Any (ExistingMustMatch u) = refl
previous_same MustExist Any = refl
previous_same MustExist MustExist = refl
previous_same MustExist MustNotExist = refl
previous_same MustExist (MustExistAndMatch u) = refl
previous_same MustExist (ExistingMustMatch u) = refl
previous_same MustNotExist Any = refl
previous_same MustNotExist MustExist = refl
previous_same MustNotExist MustNotExist = refl
previous_same MustNotExist (MustExistAndMatch u) = refl
previous_same MustNotExist (ExistingMustMatch u) = refl
previous_same (MustExistAndMatch t) Any = refl
previous_same (MustExistAndMatch t) MustExist = refl
previous_same (MustExistAndMatch t) MustNotExist = refl
previous_same (MustExistAndMatch t) (MustExistAndMatch u) = target_same t u
previous_same (MustExistAndMatch t) (ExistingMustMatch u) = refl
previous_same (ExistingMustMatch t) Any = refl
previous_same (ExistingMustMatch t) MustExist = refl
previous_same (ExistingMustMatch t) MustNotExist = refl
previous_same (ExistingMustMatch t) (MustExistAndMatch u) = refl
previous_same (ExistingMustMatch t) (ExistingMustMatch u) = target_same t u

pub change_same : (a b : Change) → (change.ghosts).eq a b ≡ same_change a b
change_same (Update log expected new) (Update log' expected' new') = of_three (log_change_same log log') (previous_same expected expected') (target_same new new')
change_same (Update log expected new) (Delete expected' log') = refl
change_same (Delete expected log) (Update log' expected' new') = refl
change_same (Delete expected log) (Delete expected' log') = of_two (previous_same expected expected') (ref_log_same log log')

pub ref_edit_same : (a b : RefEdit) → (ref_edit.ghosts).eq a b ≡ same_ref_edit a b
ref_edit_same a b = of_three (change_same a.change b.change) refl refl
