use mathlib.Core.Path.{◌∙◌}
use borrow.Author.Rules.{rules}
use Rattle.edits.proofs.Lists.{records_room, left_start, left_more, left_fails, left_end}
use Rattle.edits.proofs.are_edits.Goals as goal

pub slice_bounds-chunks_exact-count : goal.slice_bounds-chunks_exact-count
slice_bounds-chunks_exact-count c = records_room c.args.list.now c.requires

pub slice_bounds-chunks_exact-start : goal.slice_bounds-chunks_exact-start
slice_bounds-chunks_exact-start c = let k = records_room c.args.list.now c.requires in search rules

pub loop-record-init : goal.loop-record-init
loop-record-init c = (left_start _ _ c.requires (cc), cc)

pub returns-then-not-is_edit : goal.returns-then-not-is_edit
returns-then-not-is_edit c =
    let v = c.loop-record.invariant in
    let s = c.in-Some.ensures.steps in
    left_fails _ _ _ _ v.0 s.1.0 (s.1.1 ∙ v.1) _ c.is_edit.ensures c.if-not-is_edit.true

pub loop-record-preserved : goal.loop-record-preserved
loop-record-preserved c =
    let v = c.loop-record.invariant in
    let s = c.in-Some.ensures.steps in
    (left_more _ _ _ _ v.0 s.1.0 (s.1.1 ∙ v.1) _ c.is_edit.ensures c.if-not-is_edit.false, s.0 ∙ v.1)

pub returns : goal.returns
returns c =
    let v = c.loop-record.invariant in
    let s = c.in-None.ensures.steps in
    left_end _ _ v.0 (search rules)
