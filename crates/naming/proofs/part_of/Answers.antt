use Rattle.calls.proofs.Known.{near}
use Rattle.naming.proofs.Laws.{good_is_laid, part_none, part_there}
use Rattle.naming.proofs.part_of.Goals as goal

pub known-requires : goal.known-requires
known-requires c = search good_is_laid

pub returns-in_default : goal.returns-in_default
returns-in_default c = search part_none

pub name_at-requires-clause-laid : goal.name_at-requires-clause-laid
name_at-requires-clause-laid c =
    search good_is_laid

pub name_at-requires-clause-n_bound : goal.name_at-requires-clause-n_bound
name_at-requires-clause-n_bound c =
    search near

pub returns : goal.returns
returns c = search part_there
