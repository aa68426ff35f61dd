use Rattle.show.proofs.Laws.{is_fine}
use Rattle.show.proofs.judge.laid.Goals as goal

pub all-requires-clause-fine : goal.all-requires-clause-fine
all-requires-clause-fine g c =
    search is_fine
