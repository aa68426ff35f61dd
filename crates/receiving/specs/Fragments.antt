-- What the calls on a receiver alone do with it and with the answer record. No region is lent to them. Closing takes a region too, and
-- stands with the calls on regions (crates/calls, specs/Call).
use Rattle.model.specs.declared.Refusal.{Refusal}
use Rattle.std.specs.Prelude.{List, [], ◌∷◌, ℕ, length, Result, Ok, Err}
use Rattle.model.specs.Numbers.{answer, refusal_answer}
use Rattle.receiver.specs.Receiver.{held, freshened, taken}
use Rattle.calls.specs.Call.{Out, Kept, kept_call}

pub data ReceiverCall : Type 0 where
  fresh_receiver : ReceiverCall
  take_fragment : List ℕ → ReceiverCall

-- ---- the receiver that it comes to, or why to none

unfoldable pub receiver_of : ReceiverCall → List ℕ → Result (List ℕ) Refusal
receiver_of fresh_receiver b = freshened b
receiver_of (take_fragment fragment) b = taken fragment b

-- of a fragment that was taken: how many bytes are held now
abbrev pub given_of : ReceiverCall → List ℕ → List ℕ
given_of fresh_receiver b' = []
given_of (take_fragment fragment) b' = length (held b') ∷ []

-- ---- the call: its answer, and the receiver as it is left; a refusal leaves it as it is

abbrev pub kept_as : ReceiverCall → Result (List ℕ) Refusal → List ℕ → Kept
kept_as c (Err x) b = record { answer = refusal_answer x; buffer = b }
kept_as c (Ok b') b = record { answer = answer 0 (given_of c b'); buffer = b' }

unfoldable pub received : ReceiverCall → List ℕ → Kept
received c b = kept_as c (receiver_of c b) b

unfoldable pub receiver_call : ReceiverCall → List ℕ → List ℕ → Out
receiver_call c b a = kept_call (received c b) b a
