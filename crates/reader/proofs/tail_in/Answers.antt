use Rattle.std.proofs.Common.{◌+◌, ◌≤◌, length, arith}
use Rattle.reader.proofs.Whole.{tail_none, content_room, tail_count, tail_site, tail_is}
use Rattle.reader.proofs.tail_in.Goals as goal

pub returns-in_err-length : goal.returns-in_err-length
returns-in_err-length c = rw c.from_residual.ensures (search (tail_none, c.in_err-length.was))

pub overflow_add-behind : goal.overflow_add-behind
overflow_add-behind c =
    let h : 3 + c.in_ok-length.length ≤ length c.args.part.now = search (content_room, c.in_ok-length.was) in
    record { fits = omega arith }

pub slice_bounds-count_committers-end : goal.slice_bounds-count_committers-end
slice_bounds-count_committers-end c = search (content_room, c.in_ok-length.was)

pub returns-in_err-count : goal.returns-in_err-count
returns-in_err-count c = rw c.from_residual-in_err-count.ensures (search (tail_count, c.in_ok-length.was, c.in_err-count.was))

pub slice_bounds-site_in-count : goal.slice_bounds-site_in-count
slice_bounds-site_in-count c = search (content_room, c.in_ok-length.was)

pub slice_bounds-site_in-start : goal.slice_bounds-site_in-start
slice_bounds-site_in-start c = search (content_room, c.in_ok-length.was)

pub returns-in_err-site : goal.returns-in_err-site
returns-in_err-site c = rw c.from_residual-in_err-site.ensures (search (tail_site, c.in_ok-length.was, c.in_ok-count.was, c.in_err-site.was))

pub returns : goal.returns
returns c = search (tail_is, c.in_ok-length.was, c.in_ok-count.was, c.in_ok-site.was)
