-- Numbers a caller gets: the number of a reply, and the places of the answer record that go with it.
use Rattle.std.specs.Prelude.{Bool, true, false, List, [], ◌∷◌, ◌++◌, ℕ, ◌-◌, length, replicate, Option, Some, None}
use Rattle.target.specs.declared.Target.{Target}
use Rattle.target.specs.declared.Found.{Found}
use Rattle.target.specs.Found.{value_in}
use Rattle.target.specs.Fields.{target_byte, target_number, place_number}
use Rattle.transaction.specs.declared.Edit.{Edit}
use Rattle.transaction.specs.Change.{new_value, previous_value, expected_of, log_of, force_of, message_of}
use Rattle.transaction.specs.Fields.{change_byte, ref_log_byte, previous_byte}
use Rattle.model.specs.declared.Refusal.{Refusal}
use Rattle.model.specs.declared.Refusal.TheVariants.{BadRegion, Malformed, NotRegistered, ReferenceCycle, TooManyRows, MultipleEdits, PackedTransactionAcquire, LockAcquire, DeleteReferenceMustExist, MustNotExist, MustExist, ReferenceOutOfDate, DeleteMustNotExist, LogFull, WrongState, BadName, NamesFull, WrongLock, BadLoad, NothingThere, MalformedRecord, UnknownVersion, NameConflict, ReceiverFull, MalformedLine, TextTooLong, ShortBuffer}
use Rattle.model.specs.Store.{Store, entry_at}
use Rattle.model.specs.Rows.{name_in, change_in}
use Rattle.model.specs.Commit.{Stop}
use Rattle.model.specs.Commit.Stop.{no_committer, used_up}
use Rattle.model.specs.Reply.{Reply, Given}
use Rattle.model.specs.Reply.Reply.{done, stopped, refused}
use Rattle.model.specs.Reply.Given.{nothing, number, bytes_of, value, line, row, written}

-- what a caller gets: the number, and the 16 places of the record
pub record Answer : Type 0 where
  pub number : ℕ
  pub places : List ℕ

-- unused places are 0
abbrev pub answer : ℕ → List ℕ → Answer
answer n ps = record { number = n; places = ps ++ replicate (16 - length ps) 0 }

-- a target is two places, kind and number
abbrev pub option_places : Option Target → List ℕ
option_places t = target_byte t ∷ target_number t ∷ []

abbrev pub target_places : Target → List ℕ
target_places t = option_places (Some t)

-- what a name reads is three: the value's two, and where it was found
abbrev pub found_places : Found → List ℕ
found_places x = option_places (value_in x) ++ (place_number x ∷ [])

-- ---- refusals

unfoldable pub refusal_answer : Refusal → Answer
refusal_answer BadRegion = answer 1 []
refusal_answer Malformed = answer 2 []
refusal_answer (NotRegistered n) = answer 3 (n ∷ [])
refusal_answer ReferenceCycle = answer 4 []
refusal_answer TooManyRows = answer 5 []
refusal_answer (MultipleEdits n) = answer 6 (n.0 ∷ [])
refusal_answer PackedTransactionAcquire = answer 7 []
refusal_answer (LockAcquire n) = answer 8 (n.0 ∷ [])
refusal_answer (DeleteReferenceMustExist n) = answer 9 (n.0 ∷ [])
refusal_answer (MustNotExist n actual new) = answer 10 (n.0 ∷ target_places actual ++ target_places new)
refusal_answer (MustExist n expected) = answer 11 (n.0 ∷ target_places expected)
refusal_answer (ReferenceOutOfDate n expected actual) = answer 12 (n.0 ∷ target_places expected ++ target_places actual)
refusal_answer (DeleteMustNotExist n) = answer 13 (n.0 ∷ [])
refusal_answer LogFull = answer 14 []
refusal_answer WrongState = answer 15 []
refusal_answer BadName = answer 18 []
refusal_answer NamesFull = answer 19 []
refusal_answer WrongLock = answer 20 []
refusal_answer BadLoad = answer 21 []
refusal_answer NothingThere = answer 22 []
refusal_answer MalformedRecord = answer 23 []
refusal_answer UnknownVersion = answer 24 []
refusal_answer (NameConflict n) = answer 25 (n.0 ∷ [])
refusal_answer ReceiverFull = answer 26 []
refusal_answer (MalformedLine i) = answer 27 (i ∷ [])
refusal_answer TextTooLong = answer 32 []
refusal_answer ShortBuffer = answer 33 []

abbrev pub stop_number : Stop → ℕ
stop_number no_committer = 16
stop_number used_up = 17

-- ---- what a call gives

abbrev pub flag : Bool → ℕ
flag false = 0
flag true = 1

abbrev pub parent_places : Option ℕ → List ℕ
parent_places None = 0 ∷ 0 ∷ []
parent_places (Some j) = 1 ∷ j ∷ []

-- name, kind, log, force, message, expected, expected target, new target, parent, leaf-previous
abbrev pub row_places : Edit → List ℕ
row_places r =
    (name_in r).0
    ∷ change_byte (change_in r)
    ∷ ref_log_byte (log_of (change_in r))
    ∷ flag (force_of (change_in r))
    ∷ message_of (change_in r)
    ∷ previous_byte (expected_of (change_in r))
    ∷ option_places (previous_value (change_in r))
    ++ option_places (new_value (change_in r))
    ++ parent_places r.parent_index
    ++ (r.leaf_referent_previous_oid.0 ∷ [])

-- where the bytes of a name stand in the region is not the store's to say: `offset` gives it
abbrev pub given_places : (ℕ → ℕ) → Store → Given → List ℕ
given_places offset s nothing = []
given_places offset s (number n) = n ∷ []
given_places offset s (bytes_of n) = offset n ∷ length (entry_at s n).name ∷ []
given_places offset s (value x) = found_places x
given_places offset s (line l) = l.previous.0 ∷ l.new.0 ∷ l.committer ∷ l.message ∷ []
given_places offset s (row r x) = row_places r ++ (place_number x ∷ [])
given_places offset s (written t) = length t ∷ []

-- ---- the reply

unfoldable pub answer_of : (ℕ → ℕ) → Reply → Answer
answer_of offset (done s g) = answer 0 (given_places offset s g)
answer_of offset (stopped why s made) = answer (stop_number why) (made ∷ [])
answer_of offset (refused r) = refusal_answer r
