use native.Mathlib.Omega.{arith}
use Rattle.ordering.proofs.Sorts.{good_laid, order_start}
use Rattle.ordering.proofs.sort.Goals as goal

pub count_names-n-requires : goal.count_names-n-requires
count_names-n-requires c = search good_laid

pub loop-n-init : goal.loop-n-init
loop-n-init c = (omega arith, search order_start)
