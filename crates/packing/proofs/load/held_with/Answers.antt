use Rattle.packing.proofs.Loading.{line_reaches, held_none, held_new, held_known}
use Rattle.packing.proofs.load.held_with.Goals as goal

pub returns-in_default : goal.returns-in_default
returns-in_default c = search held_none

pub slice_bounds-find_name-count : goal.slice_bounds-find_name-count
slice_bounds-find_name-count c = search line_reaches

pub slice_bounds-find_name-start : goal.slice_bounds-find_name-start
slice_bounds-find_name-start c = search line_reaches

pub returns-in_default-find_name : goal.returns-in_default-find_name
returns-in_default-find_name c = search held_new

pub returns : goal.returns
returns c = search held_known
