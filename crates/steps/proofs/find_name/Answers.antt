use Rattle.steps.proofs.Laws.{at_below, number_here, number_more, number_end}
use Rattle.steps.proofs.find_name.Goals as goal

pub name_at-requires-clause-n_bound : goal.name_at-requires-clause-n_bound
name_at-requires-clause-n_bound c =
    search at_below

pub returns-then-same : goal.returns-then-same
returns-then-same c = search number_here

pub loop-n-preserved : goal.loop-n-preserved
loop-n-preserved c = search number_more

pub returns : goal.returns
returns c = search number_end
