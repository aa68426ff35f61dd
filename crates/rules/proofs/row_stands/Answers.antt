use Rattle.rules.proofs.Seen.{seen_not, seen_room, seen_twice, seen_once}
use Rattle.rules.proofs.row_stands.Goals as goal

pub returns-then-not-row_ok : goal.returns-then-not-row_ok
returns-then-not-row_ok c = search seen_not

pub bounds-flags-n : goal.bounds-flags-n
bounds-flags-n c = search seen_room

pub returns-then-flags-n : goal.returns-then-flags-n
returns-then-flags-n c = search seen_twice

pub returns : goal.returns
returns c = search seen_once
