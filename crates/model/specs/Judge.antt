-- R3's judgement: the two matches of prepare.rs on the expected and the existing value, case by case.
use Rattle.std.specs.Prelude.{cond, Option, Some, None}
use Rattle.target.specs.declared.NameNumber.{NameNumber}
use Rattle.target.specs.declared.Target.{Target}
use Rattle.target.specs.declared.Target.TheVariants.{Object}
use Rattle.target.specs.Target.{same}
use Rattle.transaction.specs.declared.PreviousValue.{PreviousValue}
use Rattle.transaction.specs.declared.PreviousValue.TheVariants.{Any, MustExist, MustNotExist, MustExistAndMatch, ExistingMustMatch}
use Rattle.transaction.specs.declared.Change.{Change}
use Rattle.transaction.specs.declared.Change.TheVariants.{Update, Delete}
use Rattle.model.specs.declared.Refusal.{Refusal}
use Rattle.model.specs.declared.Refusal.TheVariants as no

-- 12: expected 3 or 4, other value there
abbrev pub must_match : NameNumber → Target → Target → Option Refusal
must_match n expected actual = cond (same expected actual) None (Some (no.ReferenceOutOfDate n expected actual))

abbrev pub judge_delete : NameNumber → PreviousValue → Option Target → Option Refusal
judge_delete n Any existing = None
judge_delete n MustExist None = Some (no.DeleteReferenceMustExist n)  -- 9
judge_delete n MustExist (Some actual) = None
judge_delete n MustNotExist existing = Some (no.DeleteMustNotExist n)  -- 13: the source panics
judge_delete n (MustExistAndMatch t) None = Some (no.DeleteReferenceMustExist n)  -- 9
judge_delete n (MustExistAndMatch t) (Some actual) = must_match n t actual
judge_delete n (ExistingMustMatch t) None = None
judge_delete n (ExistingMustMatch t) (Some actual) = must_match n t actual

abbrev pub judge_update : NameNumber → PreviousValue → Target → Option Target → Option Refusal
judge_update n Any new existing = None
judge_update n MustExist new None = Some (no.MustExist n (Object (record { 0 = 0 })))  -- 11: null for 1
judge_update n MustExist new (Some actual) = None
judge_update n MustNotExist new None = None
judge_update n MustNotExist new (Some actual) = cond (same actual new) None (Some (no.MustNotExist n actual new))  -- 10
judge_update n (MustExistAndMatch t) new None = Some (no.MustExist n t)  -- 11
judge_update n (MustExistAndMatch t) new (Some actual) = must_match n t actual
judge_update n (ExistingMustMatch t) new None = None
judge_update n (ExistingMustMatch t) new (Some actual) = must_match n t actual

abbrev pub judge : NameNumber → Change → Option Target → Option Refusal
judge n (Update log expected new) existing = judge_update n expected new existing
judge n (Delete expected log) existing = judge_delete n expected existing
