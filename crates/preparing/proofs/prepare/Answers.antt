use Rattle.calls.proofs.Replies.{good_laid, good_fine, bad_region}
use Rattle.preparing.proofs.Preparing.{idle_none, prepare_busy, prepare_done}
use Rattle.preparing.proofs.prepare.Goals as goal

pub returns-then-not-is_good : goal.returns-then-not-is_good
returns-then-not-is_good c = search bad_region

pub mode_number-requires : goal.mode_number-requires
mode_number-requires c = search good_laid

pub returns-then-mode_number-ne0 : goal.returns-then-mode_number-ne0
returns-then-mode_number-ne0 c = search prepare_busy

pub prepare_idle-requires-clause-laid : goal.prepare_idle-requires-clause-laid
prepare_idle-requires-clause-laid c =
    search good_laid

pub prepare_idle-requires-clause-fine : goal.prepare_idle-requires-clause-fine
prepare_idle-requires-clause-fine c =
    search good_fine

pub prepare_idle-requires-clause-region_value : goal.prepare_idle-requires-clause-region_value
prepare_idle-requires-clause-region_value c =
    search idle_none

pub returns : goal.returns
returns c = search prepare_done
