use Rattle.calls.proofs.Replies.{bad_region}
use Rattle.naming.proofs.Laws.{tested, fits_product, fits_base, fits_offset, bytes_done, bytes_far}
use Rattle.naming.proofs.name_bytes.Goals as goal

pub returns-then-not-is_good : goal.returns-then-not-is_good
returns-then-not-is_good c = search bad_region

pub part_of-requires : goal.part_of-requires
part_of-requires c = search tested

pub returns-then-length-eq0 : goal.returns-then-length-eq0
returns-then-length-eq0 c = search bytes_far

pub overflow_mul-at : goal.overflow_mul-at
overflow_mul-at c = search fits_product

pub overflow_add-at : goal.overflow_add-at
overflow_add-at c = search fits_base

pub overflow_add-at-2 : goal.overflow_add-at-2
overflow_add-at-2 c = search fits_offset

pub returns : goal.returns
returns c = search bytes_done
