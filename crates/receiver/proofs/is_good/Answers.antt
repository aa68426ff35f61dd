use Rattle.std.proofs.Common.{◌∙◌}
use borrow.Author.Tests.{lt-leb}
use Rattle.receiver.proofs.Laws.{other_size, count_too_large, zeros_decide}
use Rattle.receiver.proofs.is_good.Goals as goal

pub returns-then-receiver-ne-SIZE : goal.returns-then-receiver-ne-SIZE
returns-then-receiver-ne-SIZE c = search other_size

pub returns-then-count-le-CAPACITY : goal.returns-then-count-le-CAPACITY
returns-then-count-le-CAPACITY c = search (zeros_decide c.args.receiver.now c.type_inv.receiver)

pub returns-else-count-le-CAPACITY : goal.returns-else-count-le-CAPACITY
returns-else-count-le-CAPACITY c = lt-leb c.count-count.result 868 c.if-count-le-CAPACITY.false ∙ search count_too_large
