use native.Mathlib.Omega.{arith}
use Rattle.calls.proofs.Replies.{good_laid, bad_region}
use Rattle.naming.proofs.Laws.{add_bad, add_found, add_full, count_room, name_room, add_done}
use Rattle.naming.proofs.add_name.Goals as goal

pub returns-then-not-is_good : goal.returns-then-not-is_good
returns-then-not-is_good c = search bad_region

pub returns-then-not-is_name : goal.returns-then-not-is_name
returns-then-not-is_name c = search add_bad

pub find_name-requires : goal.find_name-requires
find_name-requires c = search good_laid

pub returns-in-Some : goal.returns-in-Some
returns-in-Some c = search add_found

pub count_names-n-requires : goal.count_names-n-requires
count_names-n-requires c = search good_laid

pub returns-then-n-ge-LIMIT : goal.returns-then-n-ge-LIMIT
returns-then-n-ge-LIMIT c = search add_full

pub add_name-requires-clause-laid : goal.add_name-requires-clause-laid
add_name-requires-clause-laid c =
    search good_laid

pub add_name-requires-clause-region_bound : goal.add_name-requires-clause-region_bound
add_name-requires-clause-region_bound c =
    count_room _ _ c.count_names-n.ensures (omega arith)

pub add_name-requires-clause-name_len_bound : goal.add_name-requires-clause-name_len_bound
add_name-requires-clause-name_len_bound c =
    search name_room

pub returns : goal.returns
returns c = search add_done
