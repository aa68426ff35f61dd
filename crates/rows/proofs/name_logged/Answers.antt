use Rattle.model.specs.Names.{logs}
use Rattle.rows.proofs.Says.{none_logged, test_past}
use Rattle.rows.proofs.name_logged.Goals as goal

pub returns-else-place-count_names : goal.returns-else-place-count_names
returns-else-place-count_names c = search (test_past (logs c.args.setting) (none_logged _))
