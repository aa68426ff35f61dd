use mathlib.Core.Path.{refl}
use borrow.Author.Rules.{rules}
use Rattle.preparing.proofs.Holding.{held_start, held_row, held_name, turn_held, names_held_lem}
use Rattle.preparing.proofs.hold_names.Goals as goal

pub loop-i-init : goal.loop-i-init
loop-i-init c = (search rules, refl, held_start _)

pub hold_row-requires-clause-i_in_bounds : goal.hold_row-requires-clause-i_in_bounds
hold_row-requires-clause-i_in_bounds c =
    search held_row

pub hold_row-requires-clause-i_bound : goal.hold_row-requires-clause-i_bound
hold_row-requires-clause-i_bound c =
    search held_name

pub loop-i-preserved : goal.loop-i-preserved
loop-i-preserved c = (search rules, search rules, search turn_held)

pub returns : goal.returns
returns c = search names_held_lem
