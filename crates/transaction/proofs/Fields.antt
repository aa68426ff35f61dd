-- What is written as numbers reads back as it was. Assumes nothing.
use Rattle.std.specs.Prelude.{Some}
use mathlib.Core.Path.{◌≡◌, refl}
use Rattle.transaction.specs.declared.RefLog.{RefLog}
use Rattle.transaction.specs.declared.RefLog.TheVariants.{AndReference, Only}
use Rattle.transaction.specs.declared.PreviousValue.{PreviousValue}
use Rattle.transaction.specs.declared.PreviousValue.TheVariants.{Any, MustExist, MustNotExist, MustExistAndMatch, ExistingMustMatch}
use Rattle.transaction.specs.declared.PackedRefs.{PackedRefs}
use Rattle.transaction.specs.declared.PackedRefs.TheVariants.{DeletionsOnly, DeletionsAndNonSymbolicUpdates, DeletionsAndNonSymbolicUpdatesRemoveLooseSourceReference}
use Rattle.transaction.specs.Change.{expected_target}
use Rattle.transaction.specs.Fields.{ref_log_byte, ref_log_of, previous_byte, previous_of, packed_refs_number, packed_refs_of}

pub ref_log_back : (l : RefLog) → ref_log_of (ref_log_byte l) ≡ Some l
ref_log_back AndReference = refl
ref_log_back Only = refl

pub previous_back : (p : PreviousValue) → previous_of (previous_byte p) (expected_target p) ≡ Some p
previous_back Any = refl
previous_back MustExist = refl
previous_back MustNotExist = refl
previous_back (MustExistAndMatch t) = refl
previous_back (ExistingMustMatch t) = refl

pub packed_refs_back : (m : PackedRefs) → packed_refs_of (packed_refs_number m) ≡ Some m
packed_refs_back DeletionsOnly = refl
packed_refs_back DeletionsAndNonSymbolicUpdates = refl
packed_refs_back DeletionsAndNonSymbolicUpdatesRemoveLooseSourceReference = refl
