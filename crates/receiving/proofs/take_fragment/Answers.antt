use Rattle.receiving.proofs.Laws.{take_bad, good_now, held_room, take_full, add_room, take_done}
use Rattle.receiving.proofs.take_fragment.Goals as goal

pub returns-then-not-is_good : goal.returns-then-not-is_good
returns-then-not-is_good c = search take_bad

pub held-held-requires : goal.held-held-requires
held-held-requires c = search good_now

pub overflow_sub-held : goal.overflow_sub-held
overflow_sub-held c = search held_room

pub returns-then-fragment-held : goal.returns-then-fragment-held
returns-then-fragment-held c = search take_full

pub add-requires-clause-good : goal.add-requires-clause-good
add-requires-clause-good c =
    search good_now

pub add-requires-clause-fragment_len_bound : goal.add-requires-clause-fragment_len_bound
add-requires-clause-fragment_len_bound c =
    search add_room

pub returns : goal.returns
returns c = search take_done
