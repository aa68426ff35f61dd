use mathlib.Core.Path.{◌≡◌}
use lib.ListN.{drop}
use Rattle.region.specs.Region.{view}
use Rattle.model.specs.Basic.{any}
use Rattle.model.specs.Store.{Entry, is_packed}
use Rattle.kept.proofs.any_packed.Given as goal

abbrev pub invariant-loop-n : goal.invariant-loop-n
invariant-loop-n l = any (λ (e : Entry). is_packed e.packed) (drop l.n (view l.region).entries) ≡ any (λ (e : Entry). is_packed e.packed) (view l.region).entries
