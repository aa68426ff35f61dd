use borrow.Author.Rules.{rules}
use Rattle.splits.proofs.Twice.{behind_none, flags_of, flags_at, least_start, least_more, least_same, least_end}
use Rattle.splits.proofs.least_repeated.Goals as goal

pub loop-i-init : goal.loop-i-init
loop-i-init c = (search least_start, search rules, search behind_none)

pub repeats-requires-clause-flags : goal.repeats-requires-clause-flags
repeats-requires-clause-flags c = search flags_at

pub loop-i-preserved-then-repeats : goal.loop-i-preserved-then-repeats
loop-i-preserved-then-repeats c = (search least_more, search rules, search flags_of)

pub loop-i-preserved : goal.loop-i-preserved
loop-i-preserved c = (search least_same, search rules, search flags_of)

pub returns : goal.returns
returns c = search least_end
