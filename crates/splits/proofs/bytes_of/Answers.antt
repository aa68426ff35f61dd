use Rattle.splits.proofs.Twice.{bytes_none}
use Rattle.splits.proofs.bytes_of.Goals as goal

pub returns-then-place-count_names : goal.returns-then-place-count_names
returns-then-place-count_names c = search bytes_none
