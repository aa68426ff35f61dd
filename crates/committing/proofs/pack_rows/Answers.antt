use borrow.Author.Rules.{rules}
use Rattle.committing.proofs.Packing.{packing_start, packing_named, packing_place, packing_more, packing_end}
use Rattle.committing.proofs.pack_rows.Goals as goal

pub loop-i-init : goal.loop-i-init
loop-i-init c = search packing_start

pub pack_row-requires : goal.pack_row-requires
pack_row-requires c = search (rules, packing_named, packing_place)

pub loop-i-preserved : goal.loop-i-preserved
loop-i-preserved c = search packing_more

pub returns : goal.returns
returns c = search packing_end
