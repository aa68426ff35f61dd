use Rattle.model.specs.Numbers.{refusal_answer}
use Rattle.answers.proofs.Laws.{told}
use Rattle.answers.proofs.VerdictFromRefusal.from.Goals as goal

pub returns-in-BadRegion : goal.returns-in-BadRegion
unfolding refusal_answer
returns-in-BadRegion c = told _ _ _ c.in-BadRegion.is c.new.ensures

pub returns-in-Malformed : goal.returns-in-Malformed
unfolding refusal_answer
returns-in-Malformed c = told _ _ _ c.in-Malformed.is c.new-in-Malformed.ensures

pub returns-in-NotRegistered : goal.returns-in-NotRegistered
unfolding refusal_answer
returns-in-NotRegistered c = told _ _ _ c.in-NotRegistered.is c.new-in-NotRegistered.ensures

pub returns-in-ReferenceCycle : goal.returns-in-ReferenceCycle
unfolding refusal_answer
returns-in-ReferenceCycle c = told _ _ _ c.in-ReferenceCycle.is c.new-in-ReferenceCycle.ensures

pub returns-in-TooManyRows : goal.returns-in-TooManyRows
unfolding refusal_answer
returns-in-TooManyRows c = told _ _ _ c.in-TooManyRows.is c.new-in-TooManyRows.ensures

pub returns-in-MultipleEdits : goal.returns-in-MultipleEdits
unfolding refusal_answer
returns-in-MultipleEdits c = told _ _ _ c.in-MultipleEdits.is c.named.ensures

pub returns-in-PackedTransactionAcquire : goal.returns-in-PackedTransactionAcquire
unfolding refusal_answer
returns-in-PackedTransactionAcquire c = told _ _ _ c.in-PackedTransactionAcquire.is c.new-in-PackedTransactionAcquire.ensures

pub returns-in-LockAcquire : goal.returns-in-LockAcquire
unfolding refusal_answer
returns-in-LockAcquire c = told _ _ _ c.in-LockAcquire.is c.named-in-LockAcquire.ensures

pub returns-in-DeleteReferenceMustExist : goal.returns-in-DeleteReferenceMustExist
unfolding refusal_answer
returns-in-DeleteReferenceMustExist c = told _ _ _ c.in-DeleteReferenceMustExist.is c.named-in-DeleteReferenceMustExist.ensures

pub returns-in-MustNotExist : goal.returns-in-MustNotExist
unfolding refusal_answer
returns-in-MustNotExist c = told _ _ _ c.in-MustNotExist.is c.named_two.ensures

pub returns-in-MustExist : goal.returns-in-MustExist
unfolding refusal_answer
returns-in-MustExist c = told _ _ _ c.in-MustExist.is c.named_one.ensures

pub returns-in-ReferenceOutOfDate : goal.returns-in-ReferenceOutOfDate
unfolding refusal_answer
returns-in-ReferenceOutOfDate c = told _ _ _ c.in-ReferenceOutOfDate.is c.named_two-in-ReferenceOutOfDate.ensures

pub returns-in-DeleteMustNotExist : goal.returns-in-DeleteMustNotExist
unfolding refusal_answer
returns-in-DeleteMustNotExist c = told _ _ _ c.in-DeleteMustNotExist.is c.named-in-DeleteMustNotExist.ensures

pub returns-in-LogFull : goal.returns-in-LogFull
unfolding refusal_answer
returns-in-LogFull c = told _ _ _ c.in-LogFull.is c.new-in-LogFull.ensures

pub returns-in-WrongState : goal.returns-in-WrongState
unfolding refusal_answer
returns-in-WrongState c = told _ _ _ c.in-WrongState.is c.new-in-WrongState.ensures

pub returns-in-BadName : goal.returns-in-BadName
unfolding refusal_answer
returns-in-BadName c = told _ _ _ c.in-BadName.is c.new-in-BadName.ensures

pub returns-in-NamesFull : goal.returns-in-NamesFull
unfolding refusal_answer
returns-in-NamesFull c = told _ _ _ c.in-NamesFull.is c.new-in-NamesFull.ensures

pub returns-in-WrongLock : goal.returns-in-WrongLock
unfolding refusal_answer
returns-in-WrongLock c = told _ _ _ c.in-WrongLock.is c.new-in-WrongLock.ensures

pub returns-in-BadLoad : goal.returns-in-BadLoad
unfolding refusal_answer
returns-in-BadLoad c = told _ _ _ c.in-BadLoad.is c.new-in-BadLoad.ensures

pub returns-in-NothingThere : goal.returns-in-NothingThere
unfolding refusal_answer
returns-in-NothingThere c = told _ _ _ c.in-NothingThere.is c.new-in-NothingThere.ensures

pub returns-in-MalformedRecord : goal.returns-in-MalformedRecord
unfolding refusal_answer
returns-in-MalformedRecord c = told _ _ _ c.in-MalformedRecord.is c.new-in-MalformedRecord.ensures

pub returns-in-UnknownVersion : goal.returns-in-UnknownVersion
unfolding refusal_answer
returns-in-UnknownVersion c = told _ _ _ c.in-UnknownVersion.is c.new-in-UnknownVersion.ensures

pub returns-in-NameConflict : goal.returns-in-NameConflict
unfolding refusal_answer
returns-in-NameConflict c = told _ _ _ c.in-NameConflict.is c.named-in-NameConflict.ensures

pub returns-in-ReceiverFull : goal.returns-in-ReceiverFull
unfolding refusal_answer
returns-in-ReceiverFull c = told _ _ _ c.in-ReceiverFull.is c.new-in-ReceiverFull.ensures

pub returns-in-MalformedLine : goal.returns-in-MalformedLine
unfolding refusal_answer
returns-in-MalformedLine c = told _ _ _ c.in-MalformedLine.is c.new-in-MalformedLine.ensures

pub returns-in-TextTooLong : goal.returns-in-TextTooLong
unfolding refusal_answer
returns-in-TextTooLong c = told _ _ _ c.in-TextTooLong.is c.new-in-TextTooLong.ensures

pub returns-in-ShortBuffer : goal.returns-in-ShortBuffer
unfolding refusal_answer
returns-in-ShortBuffer c = told _ _ _ c.in-ShortBuffer.is c.new-in-ShortBuffer.ensures
