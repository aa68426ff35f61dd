-- A receiver collects a list of edits that arrives in fragments (2026-06): its one image, which bytes are a good receiver, what a
-- fragment does and what closing does. Nothing here looks at a region.
use Rattle.model.specs.declared.Refusal.{Refusal}
use Rattle.std.specs.Prelude.{◌≡◌, Bool, true, ◌&&◌, not, cond, List, [], ◌++◌, ℕ, ◌+◌, ◌-◌, ◌*◌, ◌≤◌, length, replicate, eqb, ltb, Result, Ok, Err}
use Rattle.word.specs.Be.{cut, val, be}
use Rattle.word.specs.Tests.{same_list}
use Rattle.model.specs.declared.Refusal.TheVariants.{BadRegion, ReceiverFull}
use Rattle.model.specs.Outcome.{◌>>◌, refuse_if}
use Rattle.model.specs.Reply.{Call}
use Rattle.model.specs.Reply.Call.{prepare}

-- ---- the image: how many bytes are held, in 2; these bytes; and zeros in the places that are not in use

-- room for the longest list: version and length, 3; how many edits, 1; and 32 edits of 27 bytes
abbrev pub capacity : ℕ
capacity = 3 + 1 + 27 * 32

abbrev pub receiver_size : ℕ
receiver_size = 2 + capacity

unfoldable pub holding : List ℕ → List ℕ
holding bytes = be 2 (length bytes) ++ (bytes ++ replicate (capacity - length bytes) 0)

-- a fresh one holds nothing
abbrev pub fresh : List ℕ
fresh = holding []

-- ---- what bytes are seen to hold, and which are a good receiver: of its size, and the image of what they hold

unfoldable pub held : List ℕ → List ℕ
held b = cut 2 (val (cut 0 2 b)) b

unfoldable pub is_receiver : List ℕ → Bool
is_receiver b = eqb (length b) receiver_size && same_list b (holding (held b))

-- ---- what is done with it

-- 1: a fresh one is made of any bytes of its size
unfoldable pub freshened : List ℕ → Result (List ℕ) Refusal
freshened b = cond (eqb (length b) receiver_size) (Ok fresh) (Err BadRegion)

-- 1, then 26: a fragment, of any length, stands behind what is held, unless it is too much
unfoldable pub taken : List ℕ → List ℕ → Result (List ℕ) Refusal
taken fragment b = do
  refuse_if (not (is_receiver b)) BadRegion
  refuse_if (ltb capacity (length (held b) + length fragment)) ReceiverFull
  Ok (holding (held b ++ fragment))

-- 1: closing makes the call prepare with what is held, whatever that is,
unfoldable pub closing : List ℕ → ℕ → Result Call Refusal
closing b mode = cond (is_receiver b) (Ok (prepare (held b) mode)) (Err BadRegion)

-- and a fresh receiver follows, whatever prepare says; one that is not good stays as it is
unfoldable pub closed : List ℕ → List ℕ
closed b = cond (is_receiver b) fresh b

-- ---- what accessors ask for: a good one. The bounds are there for arithmetic, which reads a record's fields

pub record Good (b : List ℕ) : Type 0 where
  pub is : is_receiver b ≡ true
  pub size : length b ≡ receiver_size
  pub count : val (cut 0 2 b) ≡ length (held b)
  pub room : length (held b) ≤ capacity
