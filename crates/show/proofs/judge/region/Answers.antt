use Rattle.show.proofs.Laws.{is_laid}
use Rattle.show.proofs.judge.region.Goals as goal

pub laid-requires : goal.laid-requires
laid-requires g c = search is_laid
