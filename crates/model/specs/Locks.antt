-- 2026-05: two lock calls for four. Each does what the old call of its kind did. The proof stands in proofs/Locks.antt.
use Rattle.std.specs.Prelude.{◌≡◌, not, ℕ, zero, suc, Option, Some, None}
use Rattle.model.specs.declared.Lock.TheVariants.{Free, Foreign}
use Rattle.model.specs.declared.Refusal.TheVariants.{Malformed, WrongLock}
use Rattle.model.specs.Store.{Store, entry_at, is_lock, put_lock, change_entry, with_packed_lock}
use Rattle.model.specs.Outcome.{refuse_if}
use Rattle.model.specs.Reply.{Reply, ◌>>◌, known}
use Rattle.model.specs.Reply.Call.{place_lock, lift_lock}
use Rattle.model.specs.Reply.Reply.{done, refused}
use Rattle.model.specs.Reply.Given.{nothing}
use Rattle.model.specs.Calls.{step}

-- ---- the four calls that were

pub data Before : Type 0 where
  lock_name : ℕ → Before
  unlock_name : ℕ → Before
  lock_packed : Before
  unlock_packed : Before

-- 3 of a name, then 20
unfoldable pub step_before : Before → Store → Reply
step_before (lock_name n) s = do
  known n s
  refuse_if (not (is_lock Free (entry_at s n).lock)) WrongLock
  done (change_entry (put_lock Foreign) n s) nothing
step_before (unlock_name n) s = do
  known n s
  refuse_if (not (is_lock Foreign (entry_at s n).lock)) WrongLock
  done (change_entry (put_lock Free) n s) nothing
step_before lock_packed s = do
  refuse_if (not (is_lock Free s.packed_lock)) WrongLock
  done (with_packed_lock s Foreign) nothing
step_before unlock_packed s = do
  refuse_if (not (is_lock Foreign s.packed_lock)) WrongLock
  done (with_packed_lock s Free) nothing

-- ---- which of them a kind and a number stand for

abbrev pub placing : ℕ → ℕ → Option Before
placing zero n = Some (lock_name n)
placing (suc zero) n = Some lock_packed
placing (suc (suc k)) n = None

abbrev pub lifting : ℕ → ℕ → Option Before
lifting zero n = Some (unlock_name n)
lifting (suc zero) n = Some unlock_packed
lifting (suc (suc k)) n = None

-- what it did; a kind that none of them had is 2
abbrev pub did_before : Option Before → Store → Reply
did_before None s = refused Malformed
did_before (Some b) s = step_before b s

-- So of every kind, number and store.
abbrev pub AsBefore : Type 0
AsBefore =
    (kind n : ℕ) (s : Store) → (step (place_lock kind n) s ≡ did_before (placing kind n) s) × (step (lift_lock kind n) s ≡ did_before (lifting kind n) s)
