use Rattle.word.proofs.Flags.{all_down}
use Rattle.rules.proofs.rows_fine.Goals as goal

pub flagged_rows_fine-requires-clause-flags : goal.flagged_rows_fine-requires-clause-flags
flagged_rows_fine-requires-clause-flags c = search all_down
