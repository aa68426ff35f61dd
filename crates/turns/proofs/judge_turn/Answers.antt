use Rattle.turns.proofs.Turns.{turn_nested, turn_held, turn_judged}
use Rattle.turns.proofs.judge_turn.Goals as goal

pub returns-then-conflicts : goal.returns-then-conflicts
returns-then-conflicts c = search turn_nested

pub returns-then-held_by_others : goal.returns-then-held_by_others
returns-then-held_by_others c = search turn_held

pub returns : goal.returns
returns c = search turn_judged
