-- What is proved of the calls that keep their contracts on a receiver (2026-06). `determined` (crates/calls) holds of them too. The proofs
-- stand in proofs/Stated.antt.
use Rattle.std.specs.Prelude.{◌≡◌, true, false, List, [], ◌∷◌, ◌++◌, ℕ, ◌+◌, ◌≤◌, ◌<◌, length}
use Rattle.word.specs.Cut.{flat}
use Rattle.model.specs.Reply.Call.{prepare}
use Rattle.model.specs.Numbers.{answer}
use Rattle.answers.specs.Answers.{record_of}
use Rattle.receiver.specs.Receiver.{capacity, holding, fresh, held, is_receiver}
use Rattle.calls.specs.Call.{call, close_call, beside, Did}
use Rattle.receiving.specs.Fragments.{ReceiverCall, receiver_call}
use Rattle.receiving.specs.Fragments.ReceiverCall.{fresh_receiver, take_fragment}

-- ---- what our calls leave, from a receiver made fresh on: the fragments accepted since then, in their order, and the receiver's bytes.
-- Calls that are refused in between, closings too, and answer records of any size are part of it

pub data Received : List (List ℕ) → List ℕ → Type 0 where
  begun : (b a a' b' : List ℕ) → Did (receiver_call fresh_receiver b a) 0 a' (b' ∷ []) → Received [] b'
  took : {fs : List (List ℕ)} {b : List ℕ} → Received fs b
      → (f a a' b' : List ℕ) → Did (receiver_call (take_fragment f) b a) 0 a' (b' ∷ []) → Received (fs ++ (f ∷ [])) b'
  left : {fs : List (List ℕ)} {b : List ℕ} → Received fs b
      → (c : ReceiverCall) (n : ℕ) (a a' b' : List ℕ) → Did (receiver_call c b a) n a' (b' ∷ []) → (n ≡ 0 → ⊥) → Received fs b'
  closed : {fs : List (List ℕ)} {b : List ℕ} → Received fs b
      → (mode n : ℕ) (r a a' r' b' : List ℕ) → Did (close_call mode r b a) n a' (r' ∷ b' ∷ []) → length a ≡ 128 → Received [] b'
  spared : {fs : List (List ℕ)} {b : List ℕ} → Received fs b
      → (mode n : ℕ) (r a a' r' b' : List ℕ) → Did (close_call mode r b a) n a' (r' ∷ b' ∷ []) → (length a ≡ 128 → ⊥) → Received fs b'

-- It is the image of the fragments joined, for which there is room: however they were cut.
abbrev pub Holds : Type 0
Holds = (fs : List (List ℕ)) (b : List ℕ) → Received fs b → (b ≡ holding (flat fs)) × (length (flat fs) ≤ capacity)

-- A receiver is good exactly if accepted fragments leave it.
abbrev pub GoodExactly : Type 0
GoodExactly =
    (b : List ℕ)
    → (is_receiver b ≡ true → (fs : List (List ℕ)) × Received fs b)
    × ((fs : List (List ℕ)) → Received fs b → is_receiver b ≡ true)

-- ---- the request's theorem: closing gives the number, the record and the region that prepare gives on the bytes joined, and a fresh
-- receiver beside them

abbrev pub ClosesAsPrepare : Type 0
ClosesAsPrepare =
    (fs : List (List ℕ)) (b : List ℕ)
    → Received fs b
    → (mode : ℕ) (r a : List ℕ)
    → length a ≡ 128
    → close_call mode r b a ≡ beside (call (prepare (flat fs) mode) r a) fresh

-- ---- a fragment is taken exactly if there is room for it, and what is then held is answered; else it is 26

abbrev pub TakesExactly : Type 0
TakesExactly =
    (fs : List (List ℕ)) (b : List ℕ)
    → Received fs b
    → (f a : List ℕ)
    → length a ≡ 128
    → (length (flat fs) + length f ≤ capacity
    → Did (receiver_call (take_fragment f) b a) 0 (record_of (answer 0 (length (flat fs ++ f) ∷ [])).places) (holding (flat fs ++ f) ∷ []))
    × (capacity < length (flat fs) + length f
    → Did (receiver_call (take_fragment f) b a) 26 (record_of (answer 26 []).places) (b ∷ []))

-- ---- refusals

-- of a call on a receiver alone: they change no byte
abbrev pub ReceiverUnchanged : Type 0
ReceiverUnchanged =
    (c : ReceiverCall) (b a : List ℕ) (n : ℕ) (a' : List ℕ) (lent : List (List ℕ))
    → Did (receiver_call c b a) n a' lent
    → (n ≡ 0 → ⊥)
    → lent ≡ b ∷ []

-- a receiver that is not good: 1, of a fragment and of a closing, and no byte of it or of a region changes
abbrev pub ReceiverRefused : Type 0
ReceiverRefused =
    (b : List ℕ)
    → is_receiver b ≡ false
    → ((f a : List ℕ) (n : ℕ) (a' : List ℕ) (lent : List (List ℕ))
    → Did (receiver_call (take_fragment f) b a) n a' lent → (n ≡ 1) × (lent ≡ b ∷ []))
    × ((mode : ℕ) (r a : List ℕ) (n : ℕ) (a' : List ℕ) (lent : List (List ℕ))
    → Did (close_call mode r b a) n a' lent → (n ≡ 1) × (lent ≡ r ∷ b ∷ []))

-- a fresh receiver follows every other closing, whatever the region and whatever prepare says, and its number is prepare's
abbrev pub FreshFollows : Type 0
FreshFollows =
    (mode : ℕ) (r b a : List ℕ) (n : ℕ) (a' : List ℕ) (lent : List (List ℕ))
    → is_receiver b ≡ true
    → length a ≡ 128
    → Did (close_call mode r b a) n a' lent
    → (r' : List ℕ) × (lent ≡ r' ∷ fresh ∷ []) × Did (call (prepare (held b) mode) r a) n a' (r' ∷ [])

-- an answer record of another size: 1, and nothing is written anywhere
abbrev pub RecordRefused : Type 0
RecordRefused =
    (mode : ℕ) (r b a : List ℕ) (n : ℕ) (a' : List ℕ) (lent : List (List ℕ))
    → (length a ≡ 128 → ⊥)
    → Did (close_call mode r b a) n a' lent
    → (n ≡ 1) × (a' ≡ a) × (lent ≡ r ∷ b ∷ [])
