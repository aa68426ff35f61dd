use Rattle.writes.proofs.Turns.{line_told, log_told, gone_named}
use borrow.Author.Rules.{rules}
use Rattle.writes.proofs.next_first.Goals as goal

pub next_line-requires-clause-i_value : goal.next_line-requires-clause-i_value
next_line-requires-clause-i_value c =
    search line_told

pub next_log-requires-clause-i_value : goal.next_log-requires-clause-i_value
next_log-requires-clause-i_value c =
    search log_told

pub next_gone-requires : goal.next_gone-requires
next_gone-requires c = search (rules, gone_named)
