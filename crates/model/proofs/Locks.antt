-- 2026-05: the two lock calls do what the four did. Assumes nothing.
use Rattle.std.specs.Prelude.{Ok, Err}
use mathlib.Core.Path.{◌≡◌, refl}
use mathlib.Core.Bool.{Bool, true, false, not, cond}
use Prim.Native.Nat.{ℕ, zero, suc}
use lib.Dec.{ltb}
use Rattle.model.specs.declared.Lock.{Lock}
use Rattle.model.specs.declared.Lock.TheVariants.{Free, Foreign}
use Rattle.model.specs.declared.Lockable.{Lockable}
use Rattle.model.specs.declared.Lockable.TheVariants.{Name}
use Rattle.model.specs.declared.Refusal.TheVariants.{NotRegistered, WrongLock}
use Rattle.model.specs.Store.{Store, count, entry_at, is_lock, put_lock, change_entry}
use Rattle.model.specs.Outcome.{refuse_if}
use Rattle.model.specs.Reply.{Reply, ◌>>=◌, ◌>>◌, known}
use Rattle.model.specs.Reply.Reply.{done}
use Rattle.model.specs.Reply.Given.{nothing}
use Rattle.model.specs.Load.{lock_of, set_lock, relocked, placed, lifted}
use Rattle.model.specs.Calls.{step}
use Rattle.model.specs.Locks.{step_before, AsBefore}

-- of a name, whatever its lock must be and becomes: 3, then 20
named : (must becomes : Lock) (n : ℕ) (s : Store)
    → relocked must becomes 0 n s
    ≡ (known n s >> (refuse_if (not (is_lock must (entry_at s n).lock)) WrongLock >> done (change_entry (put_lock becomes) n s) nothing))
unfolding relocked
named must becomes n s = go (ltb n (count s))
  where
    rest : Reply
    rest = refuse_if (not (is_lock must (entry_at s n).lock)) WrongLock >> done (change_entry (put_lock becomes) n s) nothing

    found : Lockable → Reply
    found what = refuse_if (not (is_lock must (lock_of what s))) WrongLock >> done (set_lock what becomes s) nothing

    go : (b : Bool) → (cond b (Ok (Name (record { 0 = n }))) (Err (NotRegistered n)) >>= found) ≡ (refuse_if (not b) (NotRegistered n) >> rest)
    go true = refl
    go false = refl

pub as_before : AsBefore
unfolding step placed lifted relocked step_before
as_before zero n s = (named Free Foreign n s, named Foreign Free n s)
as_before (suc zero) n s = (refl, refl)
as_before (suc (suc k)) n s = (refl, refl)
