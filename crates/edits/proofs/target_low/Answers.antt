use Rattle.edits.proofs.Laws.{low_link, low_other}
use Rattle.edits.proofs.target_low.Goals as goal

pub returns-then-kind-eq-SYMBOLIC : goal.returns-then-kind-eq-SYMBOLIC
returns-then-kind-eq-SYMBOLIC c = search low_link

pub returns : goal.returns
returns c = search low_other
