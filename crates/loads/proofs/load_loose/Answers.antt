use Rattle.calls.proofs.Replies.{good_laid, bad_region, some_or, nothing_or}
use Rattle.loads.proofs.Laws.{loose_busy, loose_far, loose_stray, loose_bad, loose_nested, loose_room, loose_done}
use Rattle.loads.proofs.load_loose.Goals as goal

pub returns-then-not-is_good : goal.returns-then-not-is_good
returns-then-not-is_good c = search bad_region

pub mode_number-requires : goal.mode_number-requires
mode_number-requires c = search good_laid

pub returns-then-mode_number-ne0 : goal.returns-then-mode_number-ne0
returns-then-mode_number-ne0 c = search loose_busy

pub known-requires : goal.known-requires
known-requires c = search good_laid

pub returns-in_err-n : goal.returns-in_err-n
returns-in_err-n c = nothing_or c.ok_or.ensures.value c.in_err-n.was c.from_residual.ensures.1 (λ h. search loose_far)

pub is_stray_link-requires : goal.is_stray_link-requires
is_stray_link-requires c = search good_laid

pub returns-then-is_stray_link : goal.returns-then-is_stray_link
returns-then-is_stray_link c =
    let n = some_or c.ok_or.ensures.ok_part c.in_ok-n.was in
    search loose_stray

pub returns-in_err-value : goal.returns-in_err-value
returns-in_err-value c =
    let n = some_or c.ok_or.ensures.ok_part c.in_ok-n.was in
    nothing_or c.ok_or-2.ensures.value c.in_err-value.was c.from_residual-in_err-value.ensures.1 (λ h. search loose_bad)

pub is_nested-requires : goal.is_nested-requires
is_nested-requires c = search good_laid

pub returns-then-is_nested : goal.returns-then-is_nested
returns-then-is_nested c =
    let n = some_or c.ok_or.ensures.ok_part c.in_ok-n.was in
    let value = some_or c.ok_or-2.ensures.ok_part c.in_ok-value.was in
    search loose_nested

pub put_loose_at-requires-clause-laid : goal.put_loose_at-requires-clause-laid
put_loose_at-requires-clause-laid c =
    search good_laid

pub put_loose_at-requires-clause-fits_loose : goal.put_loose_at-requires-clause-fits_loose
put_loose_at-requires-clause-fits_loose c =
    let value = some_or c.ok_or-2.ensures.ok_part c.in_ok-value.was in
    search loose_room

pub returns : goal.returns
returns c =
    let n = some_or c.ok_or.ensures.ok_part c.in_ok-n.was in
    let value = some_or c.ok_or-2.ensures.ok_part c.in_ok-value.was in
    search loose_done
