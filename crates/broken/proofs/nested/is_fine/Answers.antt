use Rattle.rows.proofs.Named.{rows_named}
use Rattle.broken.proofs.nested.is_fine.Goals as goal

pub nests_fine-requires-clause-named : goal.nests_fine-requires-clause-named
nests_fine-requires-clause-named c =
    search rows_named
