use Rattle.std.proofs.Common.{◌+◌, ◌≤◌, length, arith}
use Rattle.reader.proofs.Committers.{count_empty, count_full, count_none, heading_room, count_stops, count_more, count_fits}
use Rattle.reader.proofs.+count_committers.Goals as goal

pub returns-then-list-eq0 : goal.returns-then-list-eq0
returns-then-list-eq0 t c = search count_empty

pub returns-then-room-eq0 : goal.returns-then-room-eq0
returns-then-room-eq0 t c = search count_full

pub returns-in_err-first : goal.returns-in_err-first
returns-in_err-first t c = rw c.from_residual.ensures (search (count_none, c.in_err-first.was))

pub overflow_add-behind : goal.overflow_add-behind
overflow_add-behind t c =
    let h : 3 + c.in_ok-first.first.length ≤ length c.args.list.now = search (heading_room, c.in_ok-first.was) in
    record { fits = omega arith }

pub slice_bounds-count_committers-count : goal.slice_bounds-count_committers-count
slice_bounds-count_committers-count t c = search (heading_room, c.in_ok-first.was)

pub slice_bounds-count_committers-start : goal.slice_bounds-count_committers-start
slice_bounds-count_committers-start t c = search (heading_room, c.in_ok-first.was)

pub returns-in_err-others : goal.returns-in_err-others
returns-in_err-others t c = rw c.from_residual-in_err-others.ensures (search (count_stops, c.in_ok-first.was, c.in_err-others.was))

pub overflow_add-result : goal.overflow_add-result
overflow_add-result t c = search (count_fits, c.in_ok-others.was)

pub returns : goal.returns
returns t c = search (count_more, c.in_ok-first.was, c.in_ok-others.was)
