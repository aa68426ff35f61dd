use native.Mathlib.Omega.{arith}
use lib.ListN.{length, get_or}
use Prim.Native.Nat.{◌+◌, ◌-◌, ◌≤◌}
use mathlib.Core.Path.{◌∙◌}
use Rattle.word.specs.Cut.{put}
use Rattle.word.proofs.Cut.{length_put, length_cut}
use Rattle.scribe.proofs.Committers.{none_put, Room, room_for, fewer, slot_more, committers_put}
use Rattle.scribe.proofs.+put_committers.Goals as goal

pub returns-then-numbers-eq0 : goal.returns-then-numbers-eq0
returns-then-numbers-eq0 t c = search none_put

pub bounds-lengths-0 : goal.bounds-lengths-0
bounds-lengths-0 t c =
    let r : Room c.args.numbers.now c.args.lengths.now c.args.names.now c.args.slot.now = room_for _ _ _ _ c.requires c.if-numbers-eq0.false in
    omega arith

pub overflow_add-end : goal.overflow_add-end
overflow_add-end t c =
    let r : Room c.args.numbers.now c.args.lengths.now c.args.names.now c.args.slot.now = room_for _ _ _ _ c.requires c.if-numbers-eq0.false in
    omega arith

pub slice_bounds-put_committer-end : goal.slice_bounds-put_committer-end
slice_bounds-put_committer-end t c =
    let r : Room c.args.numbers.now c.args.lengths.now c.args.names.now c.args.slot.now = room_for _ _ _ _ c.requires c.if-numbers-eq0.false in
    omega arith

pub slice_bounds-put_committer-end-2 : goal.slice_bounds-put_committer-end-2
slice_bounds-put_committer-end-2 t c =
    let r : Room c.args.numbers.now c.args.lengths.now c.args.names.now c.args.slot.now = room_for _ _ _ _ c.requires c.if-numbers-eq0.false in
    omega arith

pub slice_bounds-put_committers-count-3 : goal.slice_bounds-put_committers-count-3
slice_bounds-put_committers-count-3 t c =
    let r : Room c.args.numbers.now c.args.lengths.now c.args.names.now c.args.slot.now = room_for _ _ _ _ c.requires c.if-numbers-eq0.false in
    omega arith

pub slice_bounds-put_committers-start-3 : goal.slice_bounds-put_committers-start-3
slice_bounds-put_committers-start-3 t c =
    let r : Room c.args.numbers.now c.args.lengths.now c.args.names.now c.args.slot.now = room_for _ _ _ _ c.requires c.if-numbers-eq0.false in
    omega arith

pub put_committers-requires : goal.put_committers-requires
put_committers-requires t c =
    let r : Room c.args.numbers.now c.args.lengths.now c.args.names.now c.args.slot.now = room_for _ _ _ _ c.requires c.if-numbers-eq0.false in
    let n = 3 + get_or c.args.lengths.now 0 0 - 0 in
    let h : 0 + n ≤ length c.args.slot.now = omega arith in (
      search fewer,
      slot_more _ _ _ _ c.requires c.if-numbers-eq0.false (put 0 n c.args.slot.now c.put_committer.new.slot)
          (length_put 0 n c.args.slot.now c.put_committer.new.slot h (c.put_committer.auto.slot ∙ length_cut 0 n c.args.slot.now h)),
    )

pub returns : goal.returns
returns t c = search committers_put
