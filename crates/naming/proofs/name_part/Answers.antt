use Rattle.naming.proofs.Laws.{part_bad, tested}
use Rattle.naming.proofs.name_part.Goals as goal

pub returns-then-not-is_good : goal.returns-then-not-is_good
returns-then-not-is_good c = search part_bad

pub part_of-requires : goal.part_of-requires
part_of-requires c = search tested
