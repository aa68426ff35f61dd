use Rattle.calls.proofs.Replies.{good_laid, bad_region, some_or, nothing_or}
use Rattle.loads.proofs.Laws.{packed_busy, packed_far, packed_bad, packed_room, packed_done}
use Rattle.loads.proofs.load_packed.Goals as goal

pub returns-then-not-is_good : goal.returns-then-not-is_good
returns-then-not-is_good c = search bad_region

pub mode_number-requires : goal.mode_number-requires
mode_number-requires c = search good_laid

pub returns-then-mode_number-ne0 : goal.returns-then-mode_number-ne0
returns-then-mode_number-ne0 c = search packed_busy

pub known-requires : goal.known-requires
known-requires c = search good_laid

pub returns-in_err-n : goal.returns-in_err-n
returns-in_err-n c = nothing_or c.ok_or.ensures.value c.in_err-n.was c.from_residual.ensures.1 (λ h. search packed_far)

pub name_at-requires-clause-laid : goal.name_at-requires-clause-laid
name_at-requires-clause-laid c =
    search good_laid

pub returns-in_err-value : goal.returns-in_err-value
returns-in_err-value c =
    let n = some_or c.ok_or.ensures.ok_part c.in_ok-n.was in
    nothing_or c.ok_or-2.ensures.value c.in_err-value.was c.from_residual-in_err-value.ensures.1 (λ h. search packed_bad)

pub put_packed_at-requires-clause-laid : goal.put_packed_at-requires-clause-laid
put_packed_at-requires-clause-laid c =
    search good_laid

pub put_packed_at-requires-clause-fits_packed : goal.put_packed_at-requires-clause-fits_packed
put_packed_at-requires-clause-fits_packed c =
    let value = some_or c.ok_or-2.ensures.ok_part c.in_ok-value.was in
    search packed_room

pub returns : goal.returns
returns c =
    let n = some_or c.ok_or.ensures.ok_part c.in_ok-n.was in
    let value = some_or c.ok_or-2.ensures.ok_part c.in_ok-value.was in
    search packed_done
