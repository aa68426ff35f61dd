use Rattle.committing.proofs.Loop.{before_start, before_laid, before_named, before_apart, before_told, before_place, before_made, before_room, place_done, ran_out}
use Rattle.committing.proofs.commit_places.Goals as goal

pub loop-k-init : goal.loop-k-init
loop-k-init c = search before_start

pub place_turns-at-requires-clause-laid : goal.place_turns-at-requires-clause-laid
place_turns-at-requires-clause-laid c =
    search before_laid

pub place_turns-at-requires-clause-named : goal.place_turns-at-requires-clause-named
place_turns-at-requires-clause-named c =
    search before_named

pub place_turns-at-requires-clause-apart : goal.place_turns-at-requires-clause-apart
place_turns-at-requires-clause-apart c =
    search before_apart

pub place_turns-at-requires-clause-told : goal.place_turns-at-requires-clause-told
place_turns-at-requires-clause-told c =
    search before_told

pub place_turns-at-requires-clause-k_bound : goal.place_turns-at-requires-clause-k_bound
place_turns-at-requires-clause-k_bound c =
    search before_place

pub place_turns-at-requires-clause-k_len_bound : goal.place_turns-at-requires-clause-k_len_bound
place_turns-at-requires-clause-k_len_bound c =
    search before_room

pub place_turns-at-requires-clause-made_bound : goal.place_turns-at-requires-clause-made_bound
place_turns-at-requires-clause-made_bound c =
    search before_made

pub loop-k-preserved : goal.loop-k-preserved
loop-k-preserved c = search place_done

pub returns : goal.returns
returns c = search ran_out
