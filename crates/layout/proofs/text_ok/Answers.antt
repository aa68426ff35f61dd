use Rattle.layout.proofs.Laws.{text_long, text_held}
use Rattle.layout.proofs.text_ok.Goals as goal

pub returns-then-n-gt-LONGEST : goal.returns-then-n-gt-LONGEST
returns-then-n-gt-LONGEST c = search text_long

pub returns : goal.returns
returns c = search text_held
