use mathlib.Core.Bool.{true}
use mathlib.Core.Path.{◌≡◌}
use Rattle.model.specs.Basic.{below}
use Rattle.region.specs.Region.{view}
use Rattle.rules.specs.Tests.{row_test}
use Rattle.word.specs.Flags.{Flags}
use Rattle.model.specs.Store.{rows_in}
use Rattle.rules.specs.Marks.{seen}
use Rattle.rules.proofs.flagged_rows_fine.Given as goal

abbrev pub invariant-loop-i : goal.invariant-loop-i
invariant-loop-i l = (below l.i (row_test (view l.region)) ≡ true) × Flags (seen (rows_in (view l.region).prepared) l.i) l.flags
