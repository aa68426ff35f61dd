use Rattle.texts.proofs.Lines.{ref_malformed, name_reaches, ref_not_behind, ref_zero, ref_unpackable, ref_says}
use Rattle.texts.proofs.ref_said.Goals as goal

pub returns-in_default : goal.returns-in_default
returns-in_default c = search ref_malformed

pub slice_bounds-name-count : goal.slice_bounds-name-count
slice_bounds-name-count c = search name_reaches

pub slice_bounds-name-start : goal.slice_bounds-name-start
slice_bounds-name-start c = search name_reaches

pub returns-then-not-is_before : goal.returns-then-not-is_before
returns-then-not-is_before c = search ref_not_behind

pub returns-then-object-eq0 : goal.returns-then-object-eq0
returns-then-object-eq0 c = search ref_zero

pub returns-then-not-is_packable : goal.returns-then-not-is_packable
returns-then-not-is_packable c = search ref_unpackable

pub returns : goal.returns
returns c = search ref_says
