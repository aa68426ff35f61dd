use Rattle.reader.proofs.Found.{found_lists, found_is}
use Rattle.reader.proofs.read_committer.Goals as goal

pub committer_at-requires : goal.committer_at-requires
committer_at-requires c = search (found_lists, c.in_ok-summary.was)

pub returns : goal.returns
returns c = search (found_is, c.in_ok-summary.was)
