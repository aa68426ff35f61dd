use lib.ListN.{length}
use Rattle.texts.specs.Walk.{first_refs}
use Rattle.region.specs.Region.{view}
use Rattle.packing.proofs.Loading.{Loading}
use Rattle.packing.proofs.load.load_lines.Given as goal

abbrev pub invariant-loop-left : goal.invariant-loop-left
invariant-loop-left l = Loading (first_refs l.lines l.text) (view l.initial.region) (length l.text) l.rest l.left l.region
