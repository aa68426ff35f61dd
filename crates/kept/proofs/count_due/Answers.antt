use Rattle.word.proofs.Flags.{all_down}
use Rattle.kept.proofs.count_due.Goals as goal

pub flag_lines-requires-clause-flags : goal.flag_lines-requires-clause-flags
flag_lines-requires-clause-flags c =
    search all_down
