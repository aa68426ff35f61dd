use Rattle.good.proofs.Laws.{is_laid}
use Rattle.good.proofs.is_good.Goals as goal

pub is_fine-requires : goal.is_fine-requires
is_fine-requires c = search is_laid
