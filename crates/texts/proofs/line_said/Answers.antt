use Rattle.texts.proofs.Lines.{comment_says, peeled_says, other_says}
use Rattle.texts.proofs.line_said.Goals as goal

pub returns-then-begins_with : goal.returns-then-begins_with
returns-then-begins_with c = search comment_says

pub returns-then-is_peeled_after : goal.returns-then-is_peeled_after
returns-then-is_peeled_after c = search peeled_says

pub returns : goal.returns
returns c = search other_says
