use mathlib.Core.Path.{ap₂, ◌∙◌}
use Rattle.slots.specs.Row.{parent_from, slot_parent}
use Rattle.slots.proofs.get_parent.Goals as goal

pub returns : goal.returns
unfolding slot_parent
returns c = c.parent_from.ensures ∙ ap₂ parent_from c.get_at-has.ensures c.get_at-place.ensures
