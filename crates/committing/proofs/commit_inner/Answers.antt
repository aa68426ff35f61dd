use Rattle.word.proofs.Flags.{all_down}
use Rattle.committing.proofs.commit_inner.Goals as goal

pub flag_lines-requires-clause-flags : goal.flag_lines-requires-clause-flags
flag_lines-requires-clause-flags c =
    search all_down
