use mathlib.Core.Path.{◌∙◌}
use Rattle.answers.proofs.named_two.Goals as goal

-- src/lib.rt:184:1
pub returns : goal.returns
returns c = c.new.ensures ∙ simp (c.from.ensures, c.target_byte.ensures, c.target_number.ensures, c.target_byte-2.ensures, c.target_number-2.ensures)
