use Rattle.turns.proofs.Turns.{top_none, top_up}
use Rattle.turns.proofs.+topmost_of.Goals as goal

pub returns-in-None : goal.returns-in-None
returns-in-None t c = search top_none

pub returns-in-Some : goal.returns-in-Some
returns-in-Some t c = search top_up
