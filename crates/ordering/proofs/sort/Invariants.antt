use Prim.Native.Nat.{◌≤◌}
use Rattle.model.specs.Store.{count}
use Rattle.region.specs.Region.{view}
use Rattle.ordering.specs.Order.{Ordered}
use Rattle.ordering.proofs.sort.Given as goal

-- `sort` meets its contract: the entries from n on are sorted. Assumes nothing.
abbrev pub invariant-loop-n : goal.invariant-loop-n
invariant-loop-n l = (l.n ≤ count (view l.region)) × Ordered (view l.region) l.n l.numbers l.held
