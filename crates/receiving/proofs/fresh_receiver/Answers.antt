use Rattle.receiving.proofs.Laws.{fresh_size, fresh_done}
use Rattle.receiving.proofs.fresh_receiver.Goals as goal

pub returns-then-receiver-ne-SIZE : goal.returns-then-receiver-ne-SIZE
returns-then-receiver-ne-SIZE c = search fresh_size

pub returns : goal.returns
returns c = search fresh_done
