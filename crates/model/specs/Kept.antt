-- What is proved of every call: the rules are kept, and what reached stores have beyond them holds. The proofs stand in
-- proofs/Kept.antt.
use Rattle.model.specs.Store.{Store}
use Rattle.model.specs.Fine.{Fine}
use Rattle.model.specs.Reply.{Call}
use Rattle.model.specs.Calls.{step}
use Rattle.model.specs.Reached.{Reached, Sound, leaves}

-- Every call, from a store that obeys the rules, leaves one that does: done, refused or stopped.
abbrev pub Kept : Type 0
Kept = (s : Store) → Fine s → (c : Call) → Fine (leaves (step c s) s)

-- Every reached store is sound.
abbrev pub ReachedSound : Type 0
ReachedSound = (s : Store) → Reached s → Sound s
