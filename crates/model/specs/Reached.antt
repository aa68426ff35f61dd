-- The stores that calls reach from an empty one, and what holds of every one of them beyond the rules.
use Rattle.std.specs.Prelude.{◌≡◌, ℕ, ◌<◌, length}
use Rattle.transaction.specs.Change.{existing_in}
use Rattle.model.specs.declared.WriteReflog.{WriteReflog}
use Rattle.model.specs.Store.{Store, empty, entry_of, rows_in, mode_in}
use Rattle.model.specs.Read.{value_of}
use Rattle.model.specs.Rows.{name_in, change_in, row_at, opens}
use Rattle.model.specs.Fine.{Fine}
use Rattle.model.specs.Reply.{Call, Reply}
use Rattle.model.specs.Reply.Reply.{done, stopped, refused}
use Rattle.model.specs.Calls.{step}

-- the store that a call leaves: a refusal leaves the one that it got
abbrev pub leaves : Reply → Store → Store
leaves (done s given) t = s
leaves (stopped why s made) t = s
leaves (refused r) t = t

-- from an empty store by any calls, refused ones and stopped commits included
pub data Reached : Store → Type 0 where
  begun : (setting : WriteReflog) → Reached (empty setting)
  after : {s : Store} → Reached s → (c : Call) → Reached (leaves (step c s) s)

-- a row agrees with its name: the existing value that R3 wrote into it is what the name still reads, with the packed table
-- seen where it was opened
abbrev pub agrees : Store → ℕ → Type 0
agrees s i =
    existing_in (change_in (row_at (rows_in s.prepared) i))
    ≡ value_of (opens s (mode_in s.prepared) (rows_in s.prepared)) (entry_of s (name_in (row_at (rows_in s.prepared) i)))

-- what holds of every reached store. `fine` has the rest of what demand 3 leans on: earlier parents, distinct names, due lines
-- that fit, packed values on packable names alone
pub record Sound (s : Store) : Type 0 where
  pub fine : Fine s
  pub agree : (i : ℕ) → i < length (rows_in s.prepared) → agrees s i
