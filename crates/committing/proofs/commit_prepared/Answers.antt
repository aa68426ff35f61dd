use Prim.Native.Nat.{◌<◌}
use native.Mathlib.Omega.{arith}
use Rattle.committing.proofs.Ended.{commit_stranger, commit_signed}
use Rattle.committing.proofs.commit_prepared.Goals as goal

pub returns-then-committer-gt-COMMITTERS : goal.returns-then-committer-gt-COMMITTERS
returns-then-committer-gt-COMMITTERS c =
    let above : 65535 < c.args.committer = omega arith in search commit_stranger

pub returns : goal.returns
returns c = search commit_signed
