use mathlib.Core.Path.{◌∙◌}
use borrow.Author.Rules.{rules}
use Rattle.edits.proofs.Lists.{edits_room, ahead_start, ahead_part, ahead_more, ahead_out, ahead_end}
use Rattle.edits.proofs.first_out.Goals as goal

pub slice_bounds-chunks_exact-count : goal.slice_bounds-chunks_exact-count
slice_bounds-chunks_exact-count c = edits_room c.args.list.now c.requires

pub slice_bounds-chunks_exact-start : goal.slice_bounds-chunks_exact-start
slice_bounds-chunks_exact-start c = let k = edits_room c.args.list.now c.requires in search rules

pub loop-record-init : goal.loop-record-init
loop-record-init c = (ahead_start _ _ _ c.requires (cc), cc)

pub number_out-requires-clause-part_value : goal.number_out-requires-clause-part_value
number_out-requires-clause-part_value c =
    let v = c.loop-record.invariant in
    let s = c.in-Some.ensures.steps in
    ahead_part _ _ _ _ _ v.0 s.1.0 (s.1.1 ∙ v.1)

pub returns-in-Some-number_out : goal.returns-in-Some-number_out
returns-in-Some-number_out c =
    let v = c.loop-record.invariant in
    let s = c.in-Some.ensures.steps in
    ahead_out _ _ _ _ _ v.0 s.1.0 (s.1.1 ∙ v.1) _ c.number_out.ensures _ c.in-Some-number_out.is

pub loop-record-preserved : goal.loop-record-preserved
loop-record-preserved c =
    let v = c.loop-record.invariant in
    let s = c.in-Some.ensures.steps in
    (ahead_more _ _ _ _ _ v.0 s.1.0 (s.1.1 ∙ v.1) _ c.number_out.ensures c.in_default.is, s.0 ∙ v.1)

pub returns : goal.returns
returns c =
    let v = c.loop-record.invariant in
    let s = c.in-None.ensures.steps in
    ahead_end _ _ _ v.0 (search rules)
