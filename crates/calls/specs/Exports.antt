-- What is proved of every call that keeps the contract `Did (call c r a)`, whatever the call, of start with a settings record, of closing a
-- receiver and of writing the packed table's text. Every exported call on a region has one of the four. The proofs stand in proofs/Exports.antt,
-- those of texts in proofs/Texts.antt.
use Rattle.std.specs.Prelude.{◌≡◌, true, false, List, [], ◌∷◌, ℕ, ◌≤◌, ◌<◌, length, take, drop, Some, Result}
use Rattle.model.specs.declared.Refusal.{Refusal}
use Rattle.model.specs.Store.{Store, is_prepared}
use Rattle.model.specs.Reply.{Call, Reply}
use Rattle.model.specs.Reply.Call.{start, place_lock, lift_lock, read_packed}
use Rattle.model.specs.PackedText.{packed_table, packed_text}
use Rattle.model.specs.Texts.{plain}
use Rattle.model.specs.Reached.{Reached}
use Rattle.model.specs.Locks.{placing, lifting, did_before}
use Rattle.region.specs.Region.{decode}
use Rattle.answers.specs.declared.Verdict.{Verdict}
use Rattle.calls.specs.Call.{Out, out_of, call, start_call, close_call, write_call, Kept, Wrote, Did, Replied, Keeps, name_part}

-- ---- determined: two results that satisfy the contract of an exported call are equal, whatever it says is to come out

abbrev pub Determined : Type 0
Determined =
    (o : Out) (n n' : ℕ) (a₁ a₂ : List ℕ) (lent₁ lent₂ : List (List ℕ))
    → Did o n a₁ lent₁
    → Did o n' a₂ lent₂
    → (n ≡ n') × (a₁ ≡ a₂) × (lent₁ ≡ lent₂)

-- so are two results of the functions below the exports
abbrev pub BelowDetermined : Type 0
BelowDetermined =
    (reply : Reply) (r : List ℕ) (v v' : Result Verdict Refusal) (r₁ r₂ : List ℕ)
    → Replied v r r₁ reply
    → Replied v' r r₂ reply
    → (v ≡ v') × (r₁ ≡ r₂)

abbrev pub WroteDetermined : Type 0
WroteDetermined =
    (r b : List ℕ) (v v' : Result Verdict Refusal) (b₁ b₂ : List ℕ) → Wrote v r b b₁ → Wrote v' r b b₂ → (v ≡ v') × (b₁ ≡ b₂)

abbrev pub KeepsDetermined : Type 0
KeepsDetermined =
    (k : Kept) (v v' : Result Verdict Refusal) (b₁ b₂ : List ℕ) → Keeps v b₁ k → Keeps v' b₂ k → (v ≡ v') × (b₁ ≡ b₂)

-- the contract of the function that returns the part of a name
abbrev pub PartDetermined : Type 0
PartDetermined = (n : ℕ) (r p q : List ℕ) → p ≡ name_part n r → q ≡ name_part n r → p ≡ q

-- ---- a refusal changes no byte of a lent buffer: 0 is done, 16 and 17 are a commit stopped part way

abbrev pub Unchanged : Type 0
Unchanged =
    (c : Call) (r a : List ℕ) (n : ℕ) (a' : List ℕ) (lent : List (List ℕ))
    → Did (call c r a) n a' lent
    → (n ≡ 0 → ⊥)
    → (n ≡ 16 → ⊥)
    → (n ≡ 17 → ⊥)
    → lent ≡ r ∷ []

abbrev pub StartUnchanged : Type 0
StartUnchanged =
    (bytes r a : List ℕ) (n : ℕ) (a' : List ℕ) (lent : List (List ℕ))
    → Did (start_call bytes r a) n a' lent
    → (n ≡ 0 → ⊥)
    → lent ≡ r ∷ []

-- of a refused closing the region is as it was. What becomes of the receiver stands in crates/receiving
abbrev pub CloseUnchanged : Type 0
CloseUnchanged =
    (mode : ℕ) (r b a : List ℕ) (n : ℕ) (a' r' b' : List ℕ)
    → Did (close_call mode r b a) n a' (r' ∷ b' ∷ [])
    → (n ≡ 0 → ⊥)
    → r' ≡ r

-- a refused writing leaves the buffer, and every writing leaves the region
abbrev pub WriteUnchanged : Type 0
WriteUnchanged =
    (r b a : List ℕ) (n : ℕ) (a' r' b' : List ℕ)
    → Did (write_call r b a) n a' (r' ∷ b' ∷ [])
    → (r' ≡ r) × ((n ≡ 0 → ⊥) → b' ≡ b)

-- ---- what is got from any bytes by start, with a setting or with a record, and then any calls, closings and writings among them

-- refused calls and records of any size included
pub data Got : List ℕ → Type 0 where
  begun : (setting : ℕ) (r a a' r' : List ℕ) → Did (call (start setting) r a) 0 a' (r' ∷ []) → Got r'
  begun_with : (bytes r a a' r' : List ℕ) → Did (start_call bytes r a) 0 a' (r' ∷ []) → Got r'
  after : {r : List ℕ} → Got r → (c : Call) (n : ℕ) (a a' r' : List ℕ) → Did (call c r a) n a' (r' ∷ []) → Got r'
  after_with : {r : List ℕ} → Got r → (bytes : List ℕ) (n : ℕ) (a a' r' : List ℕ) → Did (start_call bytes r a) n a' (r' ∷ []) → Got r'
  after_closing : {r : List ℕ} → Got r → (mode : ℕ) (n : ℕ) (b a a' r' b' : List ℕ) → Did (close_call mode r b a) n a' (r' ∷ b' ∷ []) → Got r'
  after_writing : {r : List ℕ} → Got r → (n : ℕ) (b a a' r' b' : List ℕ) → Did (write_call r b a) n a' (r' ∷ b' ∷ []) → Got r'

-- decodes to a reached store
abbrev pub GotReached : Type 0
GotReached = (r : List ℕ) → Got r → (s : Store) × (decode r ≡ Some s) × Reached s

-- ---- 2026-07: of a good region the text stands at the buffer's beginning, and all past it is as it was. Where it does not fit, it is 32

abbrev pub WritesText : Type 0
WritesText =
    (r b a : List ℕ) (s : Store) (n : ℕ) (a' r' b' : List ℕ)
    → decode r ≡ Some s
    → length a ≡ 128
    → Did (write_call r b a) n a' (r' ∷ b' ∷ [])
    → (length (packed_text s) ≤ length b
    → (n ≡ 0) × (take (length (packed_text s)) b' ≡ packed_text s) × (drop (length (packed_text s)) b' ≡ drop (length (packed_text s)) b))
    × (length b < length (packed_text s) → (n ≡ 32) × (b' ≡ b))

-- what a region says in that text, read into any region that gives done, is its packed table then
abbrev pub ReadsText : Type 0
ReadsText =
    (r a : List ℕ) (s : Store) (a' r' : List ℕ) (t : Store)
    → decode r ≡ Some s
    → Reached t
    → length a ≡ 128
    → Did (call (read_packed (packed_text t)) r a) 0 a' (r' ∷ [])
    → (u : Store) × (decode r' ≡ Some u) × (packed_table u ≡ packed_table t)

-- a backup and its return: what was written into a buffer, read into its region again with nothing prepared, is taken, and no byte changes
abbrev pub WrittenThenRead : Type 0
WrittenThenRead =
    (r b a c : List ℕ) (s : Store) (n : ℕ) (a₁ r₁ b₁ : List ℕ) (m : ℕ) (c₁ r₂ : List ℕ)
    → Got r
    → decode r ≡ Some s
    → is_prepared s.prepared ≡ false
    → length a ≡ 128
    → length c ≡ 128
    → length (packed_text s) ≤ length b
    → Did (write_call r b a) n a₁ (r₁ ∷ b₁ ∷ [])
    → Did (call (read_packed (take (length (packed_text s)) b₁)) r₁ c) m c₁ (r₂ ∷ [])
    → (m ≡ 0) × (r₂ ≡ r)

-- a text that a region took stands in the buffer when that region is written, if it has no comments and no `^` lines
abbrev pub ReadThenWritten : Type 0
ReadThenWritten =
    (t r b a c : List ℕ) (s : Store) (a₁ r₁ : List ℕ) (n : ℕ) (c₁ r₂ b₁ : List ℕ)
    → plain t ≡ true
    → decode r ≡ Some s
    → length a ≡ 128
    → length c ≡ 128
    → Did (call (read_packed t) r a) 0 a₁ (r₁ ∷ [])
    → length t ≤ length b
    → Did (write_call r₁ b c) n c₁ (r₂ ∷ b₁ ∷ [])
    → (n ≡ 0) × (take (length t) b₁ ≡ t)

-- ---- 2026-05: a caller gets of the two lock calls what the four gave, the number, the record and every byte of the region

abbrev pub LocksAsBefore : Type 0
LocksAsBefore =
    (kind n : ℕ) (r a : List ℕ) (s : Store)
    → decode r ≡ Some s
    → length a ≡ 128
    → (call (place_lock kind n) r a ≡ out_of (did_before (placing kind n) s) r)
    × (call (lift_lock kind n) r a ≡ out_of (did_before (lifting kind n) s) r)
