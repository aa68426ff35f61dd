-- What a call comes to is told by its answer: no two refusals have one answer, and a verdict that is no refusal has none of theirs.
-- Assumes nothing.
use Rattle.std.specs.Prelude.{Result, Ok, Err}
use mathlib.Core.Path.{◌≡◌, refl, sym, ap, ◌∙◌}
use mathlib.Core.Bool.{true, false, cond, false≢true}
use mathlib.Core.List.{List}
use Prim.Native.Nat.{ℕ}
use lib.ListN.{get_or}
use lib.Dec.{eqb}
use Rattle.target.specs.declared.NameNumber.{NameNumber}
use Rattle.target.specs.declared.Target.{Target}
use Rattle.target.specs.declared.Target.TheVariants.{Object, Symbolic}
use Rattle.model.specs.declared.Refusal.{Refusal}
use Rattle.model.specs.declared.Refusal.TheVariants.{BadRegion, Malformed, NotRegistered, ReferenceCycle, TooManyRows, MultipleEdits, PackedTransactionAcquire, LockAcquire, DeleteReferenceMustExist, MustNotExist, MustExist, ReferenceOutOfDate, DeleteMustNotExist, LogFull, WrongState, BadName, NamesFull, WrongLock, BadLoad, NothingThere, MalformedRecord, UnknownVersion, NameConflict, ReceiverFull, MalformedLine, TextTooLong, ShortBuffer}
use Rattle.model.specs.Numbers.{Answer, refusal_answer}
use Rattle.answers.specs.declared.Verdict.{Verdict}
use Rattle.answers.specs.Answers.{answer_by, answered, is_ending, is_apart}

-- ---- from an answer to its refusal

-- the target of a kind and a number
target_back : ℕ → ℕ → Target
target_back kind x = cond (eqb kind 1) (Object (record { 0 = x })) (Symbolic (record { 0 = x }))

-- by the number n and the places p
refusal_back : ℕ → List ℕ → Refusal
refusal_back n p =
    let name : NameNumber = record { 0 = get_or p 0 0 } in
    let first : Target = target_back (get_or p 1 0) (get_or p 2 0) in
    let second : Target = target_back (get_or p 3 0) (get_or p 4 0) in
    cond (eqb n 1) BadRegion
    (cond (eqb n 2) Malformed
    (cond (eqb n 3) (NotRegistered (get_or p 0 0))
    (cond (eqb n 4) ReferenceCycle
    (cond (eqb n 5) TooManyRows
    (cond (eqb n 6) (MultipleEdits name)
    (cond (eqb n 7) PackedTransactionAcquire
    (cond (eqb n 8) (LockAcquire name)
    (cond (eqb n 9) (DeleteReferenceMustExist name)
    (cond (eqb n 10) (MustNotExist name first second)
    (cond (eqb n 11) (MustExist name first)
    (cond (eqb n 12) (ReferenceOutOfDate name first second)
    (cond (eqb n 13) (DeleteMustNotExist name)
    (cond (eqb n 14) LogFull
    (cond (eqb n 15) WrongState
    (cond (eqb n 18) BadName
    (cond (eqb n 19) NamesFull
    (cond (eqb n 20) WrongLock
    (cond (eqb n 21) BadLoad
    (cond (eqb n 22) NothingThere
    (cond (eqb n 23) MalformedRecord
    (cond (eqb n 24) UnknownVersion
    (cond (eqb n 25) (NameConflict name)
    (cond (eqb n 26) ReceiverFull
    (cond (eqb n 27) (MalformedLine (get_or p 0 0))
    (cond (eqb n 32) TextTooLong ShortBuffer)))))))))))))))))))))))))

told : Refusal → Refusal
told r = refusal_back (refusal_answer r).number (refusal_answer r).places

told_back : (r : Refusal) → told r ≡ r
unfolding told refusal_back target_back refusal_answer
told_back BadRegion = refl
told_back Malformed = refl
told_back (NotRegistered n) = refl
told_back ReferenceCycle = refl
told_back TooManyRows = refl
told_back (MultipleEdits n) = refl
told_back PackedTransactionAcquire = refl
told_back (LockAcquire n) = refl
told_back (DeleteReferenceMustExist n) = refl
told_back (MustNotExist n (Object x) (Object y)) = refl
told_back (MustNotExist n (Object x) (Symbolic y)) = refl
told_back (MustNotExist n (Symbolic x) (Object y)) = refl
told_back (MustNotExist n (Symbolic x) (Symbolic y)) = refl
told_back (MustExist n (Object x)) = refl
told_back (MustExist n (Symbolic x)) = refl
told_back (ReferenceOutOfDate n (Object x) (Object y)) = refl
told_back (ReferenceOutOfDate n (Object x) (Symbolic y)) = refl
told_back (ReferenceOutOfDate n (Symbolic x) (Object y)) = refl
told_back (ReferenceOutOfDate n (Symbolic x) (Symbolic y)) = refl
told_back (DeleteMustNotExist n) = refl
told_back LogFull = refl
told_back WrongState = refl
told_back BadName = refl
told_back NamesFull = refl
told_back WrongLock = refl
told_back BadLoad = refl
told_back NothingThere = refl
told_back MalformedRecord = refl
told_back UnknownVersion = refl
told_back (NameConflict n) = refl
told_back ReceiverFull = refl
told_back (MalformedLine i) = refl
told_back TextTooLong = refl
told_back ShortBuffer = refl

-- ---- a refusal's number is none of an ending

no_ending : (r : Refusal) → is_ending (refusal_answer r).number ≡ false
unfolding refusal_answer
no_ending BadRegion = refl
no_ending Malformed = refl
no_ending (NotRegistered n) = refl
no_ending ReferenceCycle = refl
no_ending TooManyRows = refl
no_ending (MultipleEdits n) = refl
no_ending PackedTransactionAcquire = refl
no_ending (LockAcquire n) = refl
no_ending (DeleteReferenceMustExist n) = refl
no_ending (MustNotExist n t u) = refl
no_ending (MustExist n t) = refl
no_ending (ReferenceOutOfDate n t u) = refl
no_ending (DeleteMustNotExist n) = refl
no_ending LogFull = refl
no_ending WrongState = refl
no_ending BadName = refl
no_ending NamesFull = refl
no_ending WrongLock = refl
no_ending BadLoad = refl
no_ending NothingThere = refl
no_ending MalformedRecord = refl
no_ending UnknownVersion = refl
no_ending (NameConflict n) = refl
no_ending ReceiverFull = refl
no_ending (MalformedLine i) = refl
no_ending TextTooLong = refl
no_ending ShortBuffer = refl

-- ---- one result

-- a verdict is its answer
verdict : Answer → Verdict
verdict x = record { number = x.number; places = x.places }

pub one_verdict : (v v' : Verdict) → answer_by v ≡ answer_by v' → v ≡ v'
unfolding verdict
one_verdict v v' e = ap verdict e

other : (v : Verdict) (r : Refusal) → is_ending v.number ≡ true → answered (Ok v) ≡ refusal_answer r → ⊥
other v r a e = false≢true (sym (no_ending r) ∙ ap (λ (x : Answer). is_ending x.number) (sym e) ∙ a)

pub one_result : (v v' : Result Verdict Refusal) → is_apart v ≡ true → is_apart v' ≡ true → answered v ≡ answered v' → v ≡ v'
unfolding told
one_result (Ok v) (Ok v') a b e = ap Ok (one_verdict v v' e)
one_result (Ok v) (Err r) a b e = absurd (other v r a e)
one_result (Err r) (Ok v) a b e = absurd (other v r b (sym e))
one_result (Err r) (Err q) a b e =
    ap Err (sym (told_back r) ∙ ap (λ (x : Answer). refusal_back x.number x.places) e ∙ told_back q)

-- ---- a call that is done is apart

-- a verdict with an ending's number
pub ends : (v : Verdict) (x : Answer) → is_ending x.number ≡ true → answered (Ok v) ≡ x → is_apart (Ok v) ≡ true
ends v x h e = ap (λ (x : Answer). is_ending x.number) e ∙ h
