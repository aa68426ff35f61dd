use Rattle.reader.proofs.Committers.{heading_short, heading_low, heading_empty, heading_long, heading_past, heading_is}
use Rattle.reader.proofs.heading_in.Goals as goal

pub returns-then-list-lt-NAME : goal.returns-then-list-lt-NAME
returns-then-list-lt-NAME c = search heading_short

pub returns-then-number-last : goal.returns-then-number-last
returns-then-number-last c = search heading_low

pub returns-then-length-eq0 : goal.returns-then-length-eq0
returns-then-length-eq0 c = search heading_empty

pub returns-then-length-gt-LONGEST : goal.returns-then-length-gt-LONGEST
returns-then-length-gt-LONGEST c = search heading_long

pub returns-then-list-length : goal.returns-then-list-length
returns-then-list-length c = search heading_past

pub returns : goal.returns
returns c = search heading_is
