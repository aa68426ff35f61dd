use Rattle.layout.proofs.Laws.{layout_size, layout_head, layout_tables}
use Rattle.layout.proofs.is_laid.Goals as goal

pub returns-then-region-ne-SIZE : goal.returns-then-region-ne-SIZE
returns-then-region-ne-SIZE c = search layout_size

pub returns-then-not-head_ok : goal.returns-then-not-head_ok
returns-then-not-head_ok c = search layout_head

pub returns : goal.returns
returns c = search layout_tables
