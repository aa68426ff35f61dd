-- What every call does with a region and an answer record, by what the model's step does to a store: one shape for all calls.
use Rattle.model.specs.declared.Refusal.{Refusal}
use Rattle.std.specs.Prelude.{◌≡◌, Bool, true, false, cond, List, [], ◌∷◌, ◌++◌, ℕ, length, get_or, drop, eqb, Option, Some, None, Result, Ok, Err}
use Rattle.word.specs.Be.{cut}
use Rattle.model.specs.declared.Refusal.TheVariants.{BadRegion}
use Rattle.model.specs.declared.WriteReflog.TheVariants.{Disable}
use Rattle.model.specs.Store.{Store, empty}
use Rattle.model.specs.Reply.{Call, Given, Reply}
use Rattle.model.specs.Reply.Call.{start, add_name, name_bytes, load_loose, load_packed, place_lock, lift_lock, prepare, commit, rollback, read_name, read_line, read_row, write_packed, read_packed}
use Rattle.model.specs.Reply.Reply.{done, stopped, refused}
use Rattle.model.specs.Reply.Given.{nothing, number, bytes_of, value, line, row, written}
use Rattle.model.specs.Calls.{step}
use Rattle.model.specs.Numbers.{Answer, answer_of}
use Rattle.settings.specs.Format.{Settings, read}
use Rattle.receiver.specs.Receiver.{closing, closed}
use Rattle.region.specs.Layout.{region_size}
use Rattle.region.specs.Region.{image, decode, name_offset}
use Rattle.answers.specs.declared.Verdict.{Verdict}
use Rattle.answers.specs.Answers.{record_of, answered, is_apart}

-- ---- a call on a region

-- start takes the region's bytes for nothing, and looks at its size alone
abbrev pub sized : List ℕ → Option Store
sized r = cond (eqb (length r) region_size) (Some (empty Disable)) None

abbrev pub is_start : Call → Bool
is_start (start k) = true
is_start (add_name bytes) = false
is_start (name_bytes n) = false
is_start (load_loose n kind x) = false
is_start (load_packed n kind x) = false
is_start (place_lock kind n) = false
is_start (lift_lock kind n) = false
is_start (prepare list mode) = false
is_start (commit committer allowance) = false
is_start rollback = false
is_start (read_name n) = false
is_start (read_line n place) = false
is_start (read_row place) = false
is_start (write_packed room) = false
is_start (read_packed bytes) = false

-- the store that a call finds in a region
abbrev pub found : Call → List ℕ → Option Store
found c r = cond (is_start c) (sized r) (decode r)

-- 1: a region that holds no store
abbrev pub step_on : Call → Option Store → Reply
step_on c None = refused BadRegion
step_on c (Some s) = step c s

unfoldable pub reply_to : Call → List ℕ → Reply
reply_to c r = step_on c (found c r)

-- ---- start with a settings record in place of a bare setting: 1, then the record's own refusals, then as start with its log setting

abbrev pub start_from : Result Settings Refusal → Option Store → Reply
start_from o None = refused BadRegion
start_from (Err x) (Some s) = refused x
start_from (Ok settings) (Some s) = step (start settings.log) s

-- versions 1 and 2 are read
unfoldable pub reply_to_record : List ℕ → List ℕ → Reply
reply_to_record bytes r = start_from (read 2 bytes) (sized r)

-- ---- closing a receiver: 1 where it is not good, then as prepare with what it holds

abbrev pub reply_or : Result Call Refusal → List ℕ → Reply
reply_or (Err x) r = refused x
reply_or (Ok c) r = reply_to c r

unfoldable pub reply_to_closing : List ℕ → ℕ → List ℕ → Reply
reply_to_closing b mode r = reply_or (closing b mode) r

-- ---- what is left and answered

-- the region that a reply leaves: the image of its store; a refusal leaves the region as it is
abbrev pub region_after : Reply → List ℕ → List ℕ
region_after (done s given) r = image s
region_after (stopped why s made) r = image s
region_after (refused x) r = r

-- ---- what the caller gets: the number, the answer record, and the buffers that it lent, the region first

pub record Out : Type 0 where
  pub code : ℕ
  pub answer : List ℕ
  pub lent : List (List ℕ)

unfoldable pub out_of : Reply → List ℕ → Out
out_of reply r = record {
  code = (answer_of name_offset reply).number;
  answer = record_of (answer_of name_offset reply).places;
  lent = region_after reply r ∷ [];
}

-- a record of another size: 1, and nothing is written anywhere
abbrev pub untouched : List ℕ → List (List ℕ) → Out
untouched a lent = record { code = 1; answer = a; lent = lent }

-- a record of 128 bytes lets the call be made
abbrev pub recorded : Out → List (List ℕ) → List ℕ → Out
recorded o lent a = cond (eqb (length a) 128) o (untouched a lent)

-- what the caller gets of any reply
abbrev pub replied : Reply → List ℕ → List ℕ → Out
replied reply r a = recorded (out_of reply r) (r ∷ []) a

unfoldable pub call : Call → List ℕ → List ℕ → Out
call c r a = replied (reply_to c r) r a

unfoldable pub start_call : List ℕ → List ℕ → List ℕ → Out
start_call bytes r a = replied (reply_to_record bytes r) r a

-- a receiver, or a buffer, is lent beside the region, and stands behind it
abbrev pub beside : Out → List ℕ → Out
beside o b = record { code = o.code; answer = o.answer; lent = o.lent ++ (b ∷ []) }

unfoldable pub close_call : ℕ → List ℕ → List ℕ → List ℕ → Out
close_call mode r b a = recorded (beside (out_of (reply_to_closing b mode r) r) (closed b)) (r ∷ b ∷ []) a

-- ---- writing the packed table's text: at the buffer's beginning, and what stands past it stays

abbrev pub text_in : Given → List ℕ
text_in nothing = []
text_in (number n) = []
text_in (bytes_of n) = []
text_in (value x) = []
text_in (line l) = []
text_in (row r x) = []
text_in (written t) = t

abbrev pub buffer_after : Reply → List ℕ → List ℕ
buffer_after (done s given) b = text_in given ++ drop (length (text_in given)) b
buffer_after (stopped why s made) b = b
buffer_after (refused x) b = b

-- the buffer's length is all that the call knows of it
unfoldable pub reply_to_writing : List ℕ → List ℕ → Reply
reply_to_writing b r = reply_to (write_packed (length b)) r

unfoldable pub write_call : List ℕ → List ℕ → List ℕ → Out
write_call r b a = recorded (beside (out_of (reply_to_writing b r) r) (buffer_after (reply_to_writing b r) b)) (r ∷ b ∷ []) a

-- ---- a call on one buffer that is no region: its answer, and the buffer as it is left

pub record Kept : Type 0 where
  pub answer : Answer
  pub buffer : List ℕ

abbrev pub kept_out : Kept → Out
kept_out k = record { code = k.answer.number; answer = record_of k.answer.places; lent = k.buffer ∷ [] }

abbrev pub kept_call : Kept → List ℕ → List ℕ → Out
kept_call k b a = recorded (kept_out k) (b ∷ []) a

-- ---- the contract

-- the contract of every exported call: its number, the record and the lent buffers as it leaves them
pub record Did (o : Out) (n : ℕ) (a : List ℕ) (buffers : List (List ℕ)) : Type 0 where
  pub code : n ≡ o.code
  pub answer : a ≡ o.answer
  pub lent : buffers ≡ o.lent

-- ---- below the exports

-- the contract of the function on plain values below each exported call on a region: what it answers, and a refusal as an error
pub record Replied (v : Result Verdict Refusal) (r r' : List ℕ) (reply : Reply) : Type 0 where
  pub answer : answered v ≡ answer_of name_offset reply
  pub apart : is_apart v ≡ true
  pub region : r' ≡ region_after reply r

-- and below closing, with the receiver too
pub record Closed (v : Result Verdict Refusal) (r r' b b' : List ℕ) (mode : ℕ) : Type 0 where
  pub answer : answered v ≡ answer_of name_offset (reply_to_closing b mode r)
  pub apart : is_apart v ≡ true
  pub region : r' ≡ region_after (reply_to_closing b mode r) r
  pub receiver : b' ≡ closed b

-- and below writing the packed table's text, which leaves the region
pub record Wrote (v : Result Verdict Refusal) (r b b' : List ℕ) : Type 0 where
  pub answer : answered v ≡ answer_of name_offset (reply_to_writing b r)
  pub apart : is_apart v ≡ true
  pub buffer : b' ≡ buffer_after (reply_to_writing b r) b

-- and below each of those on another buffer
pub record Keeps (v : Result Verdict Refusal) (b' : List ℕ) (k : Kept) : Type 0 where
  pub answer : answered v ≡ k.answer
  pub apart : is_apart v ≡ true
  pub buffer : b' ≡ k.buffer

-- ---- the bytes of a name, handed back as a part of the region: what stands at the offset and length that name_bytes answers. A
-- refusal answers length 0

abbrev pub stretch : List ℕ → List ℕ → List ℕ
stretch places r = cut (get_or places 0 0) (get_or places 1 0) r

unfoldable pub name_part : ℕ → List ℕ → List ℕ
name_part n r = stretch (answer_of name_offset (reply_to (name_bytes n) r)).places r

-- ---- start's number
