use mathlib.Core.Path.{◌≡◌}
use Prim.Native.Nat.{◌≤◌}
use lib.ListN.{length}
use Rattle.word.specs.Flags.{Flags}
use Rattle.model.specs.Store.{rows_in}
use Rattle.region.specs.Region.{view}
use Rattle.splits.specs.Twice.{behind, least_from}
use Rattle.splits.proofs.least_repeated.Given as goal

abbrev pub invariant-loop-i : goal.invariant-loop-i
invariant-loop-i l =
    (l.least ≡ least_from (view l.region) (rows_in (view l.region).prepared) l.i)
    × (l.i ≤ length (rows_in (view l.region).prepared))
    × Flags (behind (rows_in (view l.region).prepared) l.i) l.flags
