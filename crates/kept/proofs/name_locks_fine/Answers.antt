use Rattle.word.proofs.Flags.{all_down}
use Rattle.kept.proofs.name_locks_fine.Goals as goal

pub flag_rows-requires-clause-flags : goal.flag_rows-requires-clause-flags
flag_rows-requires-clause-flags c =
    search all_down
