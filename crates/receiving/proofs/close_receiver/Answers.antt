use Rattle.receiving.proofs.Laws.{close_bad, good_now, good_sized, close_done}
use Rattle.receiving.proofs.close_receiver.Goals as goal

pub returns-then-not-is_good : goal.returns-then-not-is_good
returns-then-not-is_good c = search close_bad

pub held-requires : goal.held-requires
held-requires c = search good_now

pub make_fresh-requires : goal.make_fresh-requires
make_fresh-requires c = search good_sized

pub returns : goal.returns
returns c = search close_done
