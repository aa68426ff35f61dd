-- What is proved of every call on a settings record that keeps its contract. `determined` (crates/calls) holds of them too. The proofs
-- stand in proofs/Stated.antt.
use Rattle.std.specs.Prelude.{◌≡◌, List, [], ◌∷◌, ◌++◌, ℕ, ◌<◌, length, drop, Option, Ok}
use Rattle.answers.specs.Answers.{record_of}
use Rattle.model.specs.Numbers.{answer}
use Rattle.settings.specs.Format.{Settings, read}
use Rattle.settings.specs.Lent.{write_given, committer_at}
use Rattle.calls.specs.Call.{Did}
use Rattle.records.specs.Record.{RecordCall, record_call, committer_part}
use Rattle.records.specs.Record.RecordCall.{write_settings}

-- A refusal changes no byte of the buffer.
abbrev pub RecordUnchanged : Type 0
RecordUnchanged =
    (c : RecordCall) (b a : List ℕ) (n : ℕ) (a' : List ℕ) (lent : List (List ℕ))
    → Did (record_call c b a) n a' lent
    → (n ≡ 0 → ⊥)
    → lent ≡ b ∷ []

-- A write that is done left a record in front of the bytes that stood behind it, and answered its length.
abbrev pub WriteKeeps : Type 0
WriteKeeps =
    (v : ℕ) (given : Option Settings) (b a a' b' : List ℕ)
    → Did (record_call (write_settings v given) b a) 0 a' (b' ∷ [])
    → (r : List ℕ)
    × (write_given v given ≡ Ok r)
    × (b' ≡ r ++ drop (length r) b)
    × (a' ≡ record_of (answer 0 (length r ∷ [])).places)

-- The part of a committer that is there is its name.
abbrev pub PartIsName : Type 0
PartIsName =
    (known : ℕ) (b : List ℕ) (s : Settings) (i : ℕ) → read known b ≡ Ok s → i < length s.committers
    → committer_part known i b ≡ (committer_at s i).name
