use Rattle.splits.proofs.Laws.{link_none, link_at}
use Rattle.splits.proofs.link_of.Goals as goal

pub returns-then-place-count_names : goal.returns-then-place-count_names
returns-then-place-count_names c = search link_none

pub returns : goal.returns
returns c = search link_at
