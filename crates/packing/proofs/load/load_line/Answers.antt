use Rattle.packing.proofs.Loading.{line_reaches, load_none, load_numbers, load_fits, load_done}
use Rattle.packing.proofs.load.load_line.Goals as goal

pub returns-in_default : goal.returns-in_default
returns-in_default c = search load_none

pub slice_bounds-number_of-count : goal.slice_bounds-number_of-count
slice_bounds-number_of-count c = search line_reaches

pub slice_bounds-number_of-start : goal.slice_bounds-number_of-start
slice_bounds-number_of-start c = search line_reaches

pub number_of-name-requires-clause-numbers : goal.number_of-name-requires-clause-numbers
number_of-name-requires-clause-numbers c =
    search load_numbers

pub put_packed_at-requires-clause-fits_packed : goal.put_packed_at-requires-clause-fits_packed
put_packed_at-requires-clause-fits_packed c =
    search load_fits

pub returns : goal.returns
returns c = search load_done
