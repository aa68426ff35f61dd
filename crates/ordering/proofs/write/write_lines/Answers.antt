use Prim.Native.Nat.{◌+◌, ◌≤◌}
use native.Mathlib.Omega.{arith}
use lib.ListN.{length}
use Rattle.ordering.proofs.Lines.{write_start, write_room, write_more}
use Rattle.ordering.proofs.write.write_lines.Goals as goal

pub loop-i-init : goal.loop-i-init
loop-i-init c = search write_start

pub overflow_add-end-in-loop-i : goal.overflow_add-end-in-loop-i
overflow_add-end-in-loop-i c =
    let loop = c.loop-i in
    let room : loop.at + (42 + length c.bytes_of-bytes.result.now) ≤ length loop.buffer = search write_room in omega arith

pub slice_bounds-write_packed_ref-end : goal.slice_bounds-write_packed_ref-end
slice_bounds-write_packed_ref-end c = search write_room

pub loop-i-preserved : goal.loop-i-preserved
loop-i-preserved c = search write_more
