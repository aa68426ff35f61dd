use mathlib.Core.Path.{◌≡◌}
use lib.ListN.{length}
use Rattle.region.specs.Region.{view, Laid}
use Rattle.preparing.proofs.Holding.{Held}
use Rattle.preparing.proofs.hold_names.Given as goal

-- `hold_names` meets its contract: the rows before place i hold what they keep. Assumes nothing.
abbrev pub invariant-loop-i : goal.invariant-loop-i
invariant-loop-i l = Laid l.region × (length l.region ≡ length l.initial.region) × Held (view l.initial.region) l.i (view l.region)
