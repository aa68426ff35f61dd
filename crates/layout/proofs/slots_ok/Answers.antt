use native.Mathlib.Omega.{arith}
use Rattle.word.proofs.Codec.{ok_table_none}
use Rattle.layout.proofs.Laws.{table_more, table_stop}
use Rattle.layout.proofs.Laws.{table_rest}
use Rattle.layout.proofs.slots_ok.Goals as goal

pub loop-i-init : goal.loop-i-init
loop-i-init c = (omega arith, ok_table_none _ _ _ _ _)

pub loop-i-preserved : goal.loop-i-preserved
loop-i-preserved c = (omega arith, search table_more)

pub returns-then-not-held_ok : goal.returns-then-not-held_ok
returns-then-not-held_ok c = search table_stop

pub returns : goal.returns
returns c = search table_rest
