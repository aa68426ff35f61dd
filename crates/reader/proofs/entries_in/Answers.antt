use Rattle.reader.proofs.Whole.{entries_log, log_room, entries_mode, mode_room, entries_tail, entries_are}
use Rattle.reader.proofs.entries_in.Goals as goal

pub returns-in_err-log : goal.returns-in_err-log
returns-in_err-log c = rw c.from_residual.ensures (search (entries_log, c.in_err-log.was))

pub slice_bounds-behind-count : goal.slice_bounds-behind-count
slice_bounds-behind-count c = search (log_room, c.in_ok-log.was)

pub slice_bounds-behind-start : goal.slice_bounds-behind-start
slice_bounds-behind-start c = search (log_room, c.in_ok-log.was)

pub returns-in_err-mode : goal.returns-in_err-mode
returns-in_err-mode c = rw c.from_residual-in_err-mode.ensures (search (entries_mode, c.in_ok-log.was, c.in_err-mode.was))

pub slice_bounds-tail_in-count : goal.slice_bounds-tail_in-count
slice_bounds-tail_in-count c = search (mode_room, c.in_ok-log.was, c.in_ok-mode.was)

pub slice_bounds-tail_in-start : goal.slice_bounds-tail_in-start
slice_bounds-tail_in-start c = search (mode_room, c.in_ok-log.was, c.in_ok-mode.was)

pub returns-in_err-tail : goal.returns-in_err-tail
returns-in_err-tail c = rw c.from_residual-in_err-tail.ensures (search (entries_tail, c.in_ok-log.was, c.in_ok-mode.was, c.in_err-tail.was))

pub returns : goal.returns
returns c = search (entries_are, c.in_ok-log.was, c.in_ok-mode.was, c.in_ok-tail.was)
