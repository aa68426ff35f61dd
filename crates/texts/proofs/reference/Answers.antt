use Rattle.texts.proofs.Lines.{ref_none, ref_digits, ref_done}
use Rattle.texts.proofs.reference.Goals as goal

pub number-requires : goal.number-requires
number-requires c = search ref_digits

pub returns-then-is_ref_line : goal.returns-then-is_ref_line
returns-then-is_ref_line c = search ref_done

pub returns-else-is_ref_line : goal.returns-else-is_ref_line
returns-else-is_ref_line c = search ref_none
