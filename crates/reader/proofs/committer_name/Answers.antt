use Rattle.std.proofs.Common.{◌+◌, ◌≤◌, length, arith}
use Rattle.reader.proofs.Found.{part_room}
use Rattle.reader.proofs.committer_name.Goals as goal

pub overflow_add-result : goal.overflow_add-result
overflow_add-result c =
    let h : c.in-Ok.found.at + c.in-Ok.found.length ≤ length c.args.bytes.now = search (part_room, c.in-Ok.is) in
    record { fits = omega arith }

pub slice_bounds-result-end : goal.slice_bounds-result-end
slice_bounds-result-end c = search (part_room, c.in-Ok.is)
