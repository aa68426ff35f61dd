use Rattle.calls.proofs.Replies.{good_laid}
use Rattle.packing.proofs.Write.{ordered_few, ordered_there, write_bad, write_good, write_short, write_room, write_done}
use Rattle.packing.proofs.write_packed.Goals as goal

pub returns-then-not-is_good : goal.returns-then-not-is_good
returns-then-not-is_good c = search write_bad

pub sort-count-requires-clause-region_value : goal.sort-count-requires-clause-region_value
sort-count-requires-clause-region_value c =
    search write_good

pub text_length-length-requires-clause-laid : goal.text_length-length-requires-clause-laid
text_length-length-requires-clause-laid c =
    search good_laid

pub text_length-length-requires-clause-held_in_bounds : goal.text_length-length-requires-clause-held_in_bounds
text_length-length-requires-clause-held_in_bounds c =
    search ordered_there

pub text_length-length-requires-clause-held_bound : goal.text_length-length-requires-clause-held_bound
text_length-length-requires-clause-held_bound c =
    search ordered_few

pub returns-then-buffer-length : goal.returns-then-buffer-length
returns-then-buffer-length c = search write_short

pub write_lines-requires-clause-laid : goal.write_lines-requires-clause-laid
write_lines-requires-clause-laid c =
    search good_laid

pub write_lines-requires-clause-held_in_bounds : goal.write_lines-requires-clause-held_in_bounds
write_lines-requires-clause-held_in_bounds c =
    search ordered_there

pub write_lines-requires-clause-numbers_in_bounds : goal.write_lines-requires-clause-numbers_in_bounds
write_lines-requires-clause-numbers_in_bounds c =
    search write_room

pub returns : goal.returns
returns c = search write_done
