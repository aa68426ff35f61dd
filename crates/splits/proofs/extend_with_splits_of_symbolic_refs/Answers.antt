use native.Mathlib.Omega.{arith}
use Rattle.splits.proofs.Splits.{rows_many, ahead_start, ahead_more, taken_cycle, taken_passed}
use Rattle.splits.proofs.extend_with_splits_of_symbolic_refs.Goals as goal

pub split_first-requires-clause-region_len : goal.split_first-requires-clause-region_len
split_first-requires-clause-region_len c =
    search rows_many

pub loop-init : goal.loop-init
loop-init c = search ahead_start

pub returns-then-end-first-gt-LIMIT : goal.returns-then-end-first-gt-LIMIT
returns-then-end-first-gt-LIMIT c = absurd (omega arith)

pub loop-preserved : goal.loop-preserved
loop-preserved c = search ahead_more

pub returns-then-leads_on : goal.returns-then-leads_on
returns-then-leads_on c = search taken_cycle

pub returns : goal.returns
returns c = search taken_passed
