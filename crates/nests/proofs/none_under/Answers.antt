use Rattle.word.proofs.Flags.{all_down}
use Rattle.nests.proofs.none_under.Goals as goal

pub flag_sizes-requires-clause-flags : goal.flag_sizes-requires-clause-flags
flag_sizes-requires-clause-flags c =
    search all_down
