use Rattle.model.specs.Names.{packable}
use Rattle.rows.proofs.Says.{none_packable, test_past}
use Rattle.rows.proofs.name_packable.Goals as goal

pub returns-else-place-count_names : goal.returns-else-place-count_names
returns-else-place-count_names c = search (test_past packable none_packable)
