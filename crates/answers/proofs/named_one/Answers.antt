use mathlib.Core.Path.{◌∙◌}
use Rattle.answers.proofs.named_one.Goals as goal

-- src/lib.rt:170:1
pub returns : goal.returns
returns c = c.new.ensures ∙ simp (c.from.ensures, c.target_byte.ensures, c.target_number.ensures)
