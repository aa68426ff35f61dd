use Prim.Native.Nat.{◌<◌, ◌+◌, ◌*◌, ◌^◌}
use native.Mathlib.Omega.{arith}
use lib.Dec.{lit<}
use Rattle.texts.proofs.Digits.{room, wider, read_turn, read_end, value_at}
use Rattle.texts.proofs.number.Goals as goal

pub overflow_mul-acc : goal.overflow_mul-acc
overflow_mul-acc c =
    let l = c.loop-digit in
    let p : l.acc * 16 + 0 < 2 ^ 64 = room _ 0 l.digit-index _ l.invariant.1 c.loop-digit-test.true c.requires.few (lit< tt) in
    omega arith

pub overflow_add-acc : goal.overflow_add-acc
overflow_add-acc c = record { fits = search (room, value_at) }

pub loop-digit-preserved : goal.loop-digit-preserved
loop-digit-preserved c = (omega arith, search (wider, value_at), search read_turn)

pub returns : goal.returns
returns c = search read_end
