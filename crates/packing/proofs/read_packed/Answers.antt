use Rattle.std.specs.Prelude.{not}
use Rattle.std.proofs.Common.{ap}
use Rattle.calls.proofs.Replies.{good_laid, bad_region}
use Rattle.packing.proofs.Read.{read_busy, checked_lines, read_full, read_malformed, read_unpackable, read_loads, read_done}
use Rattle.packing.proofs.read_packed.Goals as goal

pub returns-then-not-is_good : goal.returns-then-not-is_good
returns-then-not-is_good c = search bad_region

pub mode_number-requires : goal.mode_number-requires
mode_number-requires c = search good_laid

pub returns-then-mode_number-ne0 : goal.returns-then-mode_number-ne0
returns-then-mode_number-ne0 c = search read_busy

pub has_room-requires-clause-laid : goal.has_room-requires-clause-laid
has_room-requires-clause-laid c =
    search good_laid

pub has_room-requires-clause-lines_in_bounds : goal.has_room-requires-clause-lines_in_bounds
has_room-requires-clause-lines_in_bounds c =
    search checked_lines

pub returns-then-not-has_room : goal.returns-then-not-has_room
returns-then-not-has_room c = search read_full

pub forget_packed-requires : goal.forget_packed-requires
forget_packed-requires c = search good_laid

pub load_lines-requires-clause-laid : goal.load_lines-requires-clause-laid
load_lines-requires-clause-laid c =
    c.forget_packed.ensures.laid

pub load_lines-requires-clause-lines_in_bounds : goal.load_lines-requires-clause-lines_in_bounds
load_lines-requires-clause-lines_in_bounds c =
    search checked_lines

pub load_lines-requires-clause-lines_load : goal.load_lines-requires-clause-lines_load
load_lines-requires-clause-lines_load c =
    read_loads _ _ _ c.is_good.ensures (ap not c.if-not-is_good.false) _ c.mode_number.ensures _ c.check-checked.ensures c.if-mode_number-ne0.false
    _ c.has_room.ensures (ap not c.if-not-has_room.false) _ c.forget_packed.ensures

pub returns-in-Malformed : goal.returns-in-Malformed
returns-in-Malformed c = search read_malformed

pub returns-in-Unpackable : goal.returns-in-Unpackable
returns-in-Unpackable c = search read_unpackable

pub returns-in-Whole : goal.returns-in-Whole
returns-in-Whole c = search read_done
