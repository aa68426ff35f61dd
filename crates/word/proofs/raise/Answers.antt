use Rattle.word.proofs.Flags.{raise_none}
use Rattle.word.proofs.raise.Goals as goal

pub returns-else-k-flags : goal.returns-else-k-flags
returns-else-k-flags c = search raise_none
