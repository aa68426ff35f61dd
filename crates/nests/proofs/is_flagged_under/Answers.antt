use Rattle.nests.proofs.Laws.{flagged_not, flagged_unslashed}
use Rattle.nests.proofs.is_flagged_under.Goals.{then-is_raised, else-is_raised}
use Rattle.nests.proofs.is_flagged_under.Goals as goal

pub returns-else-has_slash_at : goal.returns-else-has_slash_at
returns-else-has_slash_at c = elim c.if-is_raised.branch [
  | then-is_raised w ↦ search flagged_unslashed
  | else-is_raised w ↦ search flagged_not
]
