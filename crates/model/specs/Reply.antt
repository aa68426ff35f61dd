-- Calls and replies, with plain numbers and bytes.
use Rattle.std.specs.Prelude.{not, List, ℕ, ltb, Result, Ok, Err}
use Rattle.target.specs.declared.Found.{Found}
use Rattle.transaction.specs.declared.Edit.{Edit}
use Rattle.model.specs.declared.Line.{Line}
use Rattle.model.specs.declared.Refusal.{Refusal}
use Rattle.model.specs.declared.Refusal.TheVariants.{NotRegistered, WrongState}
use Rattle.model.specs.Store.{Store, count, is_prepared}
use Rattle.model.specs.Outcome.{refuse_if}
use Rattle.model.specs.Commit.{Stop}

-- every number is a plain number, every name, list and text its bytes. Of the buffer that write_packed fills, how long it is
pub data Call : Type 0 where
  start : ℕ → Call
  add_name : List ℕ → Call
  name_bytes : ℕ → Call
  load_loose : ℕ → ℕ → ℕ → Call
  load_packed : ℕ → ℕ → ℕ → Call
  place_lock : ℕ → ℕ → Call
  lift_lock : ℕ → ℕ → Call
  prepare : List ℕ → ℕ → Call
  commit : ℕ → ℕ → Call
  rollback : Call
  read_name : ℕ → Call
  read_line : ℕ → ℕ → Call
  read_row : ℕ → Call
  write_packed : ℕ → Call
  read_packed : List ℕ → Call

-- what a call gives when it is done: of a name its value and where it was found, of a row also where its existing
-- value was, of the packed table its text
pub data Given : Type 0 where
  nothing : Given
  number : ℕ → Given
  bytes_of : ℕ → Given
  value : Found → Given
  line : Line → Given
  row : Edit → Found → Given
  written : List ℕ → Given

-- done, with the new store; stopped (16 or 17), with the new store and the writes made; or refused
pub data Reply : Type 0 where
  done : Store → Given → Reply
  stopped : Stop → Store → ℕ → Reply
  refused : Refusal → Reply

-- the first refusal is the reply
infixl 20 ◌>>=◌ ◌>>◌
abbrev pub ◌>>=◌ : {A : Type 0} → Result A Refusal → (A → Reply) → Reply
Err r >>= f = refused r
Ok a >>= f = f a

abbrev pub ◌>>◌ : {A : Type 0} → Result A Refusal → Reply → Reply
m >> r = m >>= λ _. r

-- 3: a name number is registered
abbrev pub known : ℕ → Store → Result (Unit {0}) Refusal
known n s = refuse_if (not (ltb n (count s))) (NotRegistered n)

-- 15: nothing is prepared
abbrev pub idle : Store → Result (Unit {0}) Refusal
idle s = refuse_if (is_prepared s.prepared) WrongState
