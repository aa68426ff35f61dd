-- How the parts of an edit stand in a record or an answer: numbers, in the order in which the Rust declares the variants.
-- Total on every number.
use Rattle.target.specs.declared.Target.{Target}
use Rattle.std.specs.Prelude.{ℕ, zero, suc, Option, Some, None}
use Rattle.transaction.specs.declared.RefLog.{RefLog}
use Rattle.transaction.specs.declared.RefLog.TheVariants.{AndReference, Only}
use Rattle.transaction.specs.declared.PreviousValue.{PreviousValue}
use Rattle.transaction.specs.declared.PreviousValue.TheVariants.{Any, MustExist, MustNotExist, MustExistAndMatch, ExistingMustMatch}
use Rattle.transaction.specs.declared.Change.{Change}
use Rattle.transaction.specs.declared.Change.TheVariants.{Update, Delete}
use Rattle.transaction.specs.declared.PackedRefs.{PackedRefs}
use Rattle.transaction.specs.declared.PackedRefs.TheVariants.{DeletionsOnly, DeletionsAndNonSymbolicUpdates, DeletionsAndNonSymbolicUpdatesRemoveLooseSourceReference}

-- kind: 1 update, 2 delete
abbrev pub change_byte : Change → ℕ
change_byte (Update log expected new) = 1
change_byte (Delete expected log) = 2

-- log: 0 and reference, 1 only
abbrev pub ref_log_byte : RefLog → ℕ
ref_log_byte AndReference = 0
ref_log_byte Only = 1

abbrev pub ref_log_of : ℕ → Option RefLog
ref_log_of zero = Some AndReference
ref_log_of (suc zero) = Some Only
ref_log_of (suc (suc n)) = None

-- expected: 0 to 4 in `PreviousValue` order
abbrev pub previous_byte : PreviousValue → ℕ
previous_byte Any = 0
previous_byte MustExist = 1
previous_byte MustNotExist = 2
previous_byte (MustExistAndMatch t) = 3
previous_byte (ExistingMustMatch t) = 4

-- an expected target stands exactly with 3 and 4
abbrev pub previous_of : ℕ → Option Target → Option PreviousValue
previous_of zero None = Some Any
previous_of zero (Some t) = None
previous_of (suc zero) None = Some MustExist
previous_of (suc zero) (Some t) = None
previous_of (suc (suc zero)) None = Some MustNotExist
previous_of (suc (suc zero)) (Some t) = None
previous_of (suc (suc (suc zero))) None = None
previous_of (suc (suc (suc zero))) (Some t) = Some (MustExistAndMatch t)
previous_of (suc (suc (suc (suc zero)))) None = None
previous_of (suc (suc (suc (suc zero)))) (Some t) = Some (ExistingMustMatch t)
previous_of (suc (suc (suc (suc (suc n))))) x = None

-- mode: 1, 2 or 3, `DeletionsOnly` and its two fellows
abbrev pub packed_refs_number : PackedRefs → ℕ
packed_refs_number DeletionsOnly = 1
packed_refs_number DeletionsAndNonSymbolicUpdates = 2
packed_refs_number DeletionsAndNonSymbolicUpdatesRemoveLooseSourceReference = 3

abbrev pub packed_refs_of : ℕ → Option PackedRefs
packed_refs_of zero = None
packed_refs_of (suc zero) = Some DeletionsOnly
packed_refs_of (suc (suc zero)) = Some DeletionsAndNonSymbolicUpdates
packed_refs_of (suc (suc (suc zero))) = Some DeletionsAndNonSymbolicUpdatesRemoveLooseSourceReference
packed_refs_of (suc (suc (suc (suc n)))) = None
