use Rattle.committing.proofs.Judge.{turn_stopped, turn_nothing, turn_used, turn_unsigned, turn_made}
use Rattle.committing.proofs.turn.Goals as goal

pub returns-then-is_some : goal.returns-then-is_some
returns-then-is_some c = elim c.then-is_some.branch [
  | goal.then-is_some-via-then-is_some w ↦ turn_stopped _ _ _ _ c.requires.laid w.if-is_some.ensures
  | goal.then-is_some-via-else-is_some+then-is_none w ↦ turn_nothing _ _ _ _ c.requires.laid w.if-is_none.ensures
]

pub returns-then-at-eq0 : goal.returns-then-at-eq0
returns-then-at-eq0 c = let on = c.if-is_some.ensures in let some = c.if-is_none.ensures in search turn_used

pub returns-then-wants_committer : goal.returns-then-wants_committer
returns-then-wants_committer c = let on = c.if-is_some.ensures in let some = c.if-is_none.ensures in search turn_unsigned

pub returns : goal.returns
returns c = let on = c.if-is_some.ensures in let some = c.if-is_none.ensures in search turn_made
