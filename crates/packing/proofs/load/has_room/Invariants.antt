use lib.ListN.{length}
use Rattle.model.specs.Store.{count}
use Rattle.texts.specs.Walk.{first_refs}
use Rattle.region.specs.Region.{view}
use Rattle.packing.specs.Load.{fits}
use Rattle.packing.proofs.Loading.{Counted}
use Rattle.packing.proofs.load.has_room.Given as goal

abbrev pub invariant-loop-left : goal.invariant-loop-left
invariant-loop-left l =
    Counted (view l.region).entries (fits (view l.region).entries (count (view l.region)) (first_refs l.lines l.text)) (length l.text) l.rest l.left l.held
