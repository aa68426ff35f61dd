use Rattle.records.proofs.Laws.{part_answered}
use Rattle.records.proofs.committer_part.Goals as goal

pub returns : goal.returns
returns c = search part_answered
