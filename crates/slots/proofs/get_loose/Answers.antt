use mathlib.Core.Path.{ap₂, ◌∙◌}
use Rattle.slots.specs.Values.{loose_from, loose_in}
use Rattle.slots.proofs.get_loose.Goals as goal

pub returns : goal.returns
unfolding loose_in
returns c = c.loose_from.ensures ∙ ap₂ loose_from c.get_at-kind.ensures c.get_at-number.ensures
