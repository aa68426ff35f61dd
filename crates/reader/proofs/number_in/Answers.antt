use Rattle.std.proofs.Common.{rules}
use Rattle.reader.proofs.Entries.{number_none, number_other, number_room, number_below, number_above, number_is}
use Rattle.reader.proofs.number_in.Goals as goal

pub returns-in_err-length : goal.returns-in_err-length
returns-in_err-length c = rw c.from_residual.ensures (search (number_none, c.in_err-length.was))

pub returns-then-length-width : goal.returns-then-length-width
returns-then-length-width c = search (number_other, c.in_ok-length.was)

pub get_at-value-requires : goal.get_at-value-requires
get_at-value-requires c = (search (number_room, c.in_ok-length.was), search rules)

pub returns-then-value-least : goal.returns-then-value-least
returns-then-value-least c = search (number_below, c.in_ok-length.was)

pub returns-then-value-most : goal.returns-then-value-most
returns-then-value-most c = search (number_above, c.in_ok-length.was)

pub returns : goal.returns
returns c = search (number_is, c.in_ok-length.was)
