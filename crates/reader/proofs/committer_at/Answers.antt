use Prim.Native.Nat.{◌+◌, ◌≤◌}
use native.Mathlib.Omega.{arith}
use lib.ListN.{length}
use Rattle.reader.proofs.Places.{content_there, from_first_lem, found_at}
use Rattle.reader.proofs.committer_at.Goals as goal

pub committer_from-found-requires : goal.committer_from-found-requires
committer_from-found-requires c = search content_there

pub overflow_add-result : goal.overflow_add-result
overflow_add-result c =
    let s = c in
    let h : 14 + c.committer_from-found.result.at ≤ length s.args.bytes.now = search found_at in
    record { fits = omega arith }

pub returns : goal.returns
returns c = search from_first_lem
