use Rattle.committing.proofs.May.{may_first}
use Rattle.committing.proofs.Turned.{turned_first}
use Rattle.committing.proofs.first_turn.Goals as goal

pub turn-requires-clause-makes : goal.turn-requires-clause-makes
turn-requires-clause-makes c =
    search may_first

pub returns : goal.returns
returns c = search turned_first
