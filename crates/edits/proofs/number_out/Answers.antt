use Rattle.edits.proofs.Numbers.{expected_out, new_out, name_in_lem, name_out}
use Rattle.edits.proofs.number_out.Goals as goal

pub returns-then-link_out : goal.returns-then-link_out
returns-then-link_out c = search expected_out

pub returns-then-link_out-2 : goal.returns-then-link_out-2
returns-then-link_out-2 c = search new_out

pub returns-then-name-names : goal.returns-then-name-names
returns-then-name-names c = search name_in_lem

pub returns : goal.returns
returns c = search name_out
