use Rattle.calls.proofs.Replies.{good_laid, bad_region, some_or, nothing_or}
use Rattle.reads.proofs.Laws.{name_far, name_done}
use Rattle.reads.proofs.read_name.Goals as goal

pub returns-then-not-is_good : goal.returns-then-not-is_good
returns-then-not-is_good c = search bad_region

pub known-requires : goal.known-requires
known-requires c = search good_laid

pub returns-in_err-n : goal.returns-in_err-n
returns-in_err-n c = nothing_or c.ok_or.ensures.value c.in_err-n.was c.from_residual.ensures.1 (λ h. search name_far)

pub found_of-found-requires : goal.found_of-found-requires
found_of-found-requires c = search good_laid

pub returns : goal.returns
returns c =
    let n = some_or c.ok_or.ensures.ok_part c.in_ok-n.was in
    search name_done
