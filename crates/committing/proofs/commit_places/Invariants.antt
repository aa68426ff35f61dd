use Rattle.model.specs.Commit.{committing}
use Rattle.model.specs.Demand3.{by}
use Rattle.region.specs.Region.{view}
use Rattle.committing.proofs.Loop.{Before}
use Rattle.committing.proofs.commit_places.Given as goal

abbrev pub invariant-loop-k : goal.invariant-loop-k
invariant-loop-k l =
    Before l.committer (committing (by l.committer) l.allowance (view l.initial.region)) l.initial.region l.flags l.places l.k l.at l.region
