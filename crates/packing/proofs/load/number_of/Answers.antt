use Rattle.packing.proofs.Loading.{number_known, number_room, number_at, number_new}
use Rattle.packing.proofs.load.number_of.Goals as goal

pub returns-in-Some : goal.returns-in-Some
returns-in-Some c = search number_known

pub add_name-requires-clause-region_bound : goal.add_name-requires-clause-region_bound
add_name-requires-clause-region_bound c =
    search number_room

pub at-requires : goal.at-requires
at-requires c = search number_at

pub returns : goal.returns
returns c = search number_new
