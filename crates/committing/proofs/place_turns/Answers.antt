use Rattle.committing.proofs.Turned.{fewer, half_named, half_apart, half_made, placed}
use Rattle.committing.proofs.place_turns.Goals as goal

pub first_turn-between-requires-clause-made_bound : goal.first_turn-between-requires-clause-made_bound
first_turn-between-requires-clause-made_bound c =
    search fewer

pub second_turn-requires-clause-named : goal.second_turn-requires-clause-named
second_turn-requires-clause-named c =
    search half_named

pub second_turn-requires-clause-apart : goal.second_turn-requires-clause-apart
second_turn-requires-clause-apart c =
    search half_apart

pub second_turn-requires-clause-made_bound : goal.second_turn-requires-clause-made_bound
second_turn-requires-clause-made_bound c =
    search half_made

pub returns : goal.returns
returns c = search placed
