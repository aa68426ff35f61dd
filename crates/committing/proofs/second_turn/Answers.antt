use Rattle.committing.proofs.May.{may_second}
use Rattle.committing.proofs.Turned.{turned_second}
use Rattle.committing.proofs.second_turn.Goals as goal

pub turn-requires-clause-makes : goal.turn-requires-clause-makes
turn-requires-clause-makes c =
    search may_second

pub returns : goal.returns
returns c = search turned_second
