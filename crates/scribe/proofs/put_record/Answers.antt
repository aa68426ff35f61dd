use native.Mathlib.Omega.{arith}
use Prim.Native.Nat.{ℕ, ◌+◌, ◌-◌, ◌≤◌}
use mathlib.Core.Path.{◌≡◌, ◌∙◌}
use mathlib.Core.List.{List}
use Rattle.word.specs.Be.{cut}
use Rattle.word.specs.Cut.{put}
use Rattle.word.proofs.Cut.{length_put, length_cut}
use lib.ListN.{length}
use Rattle.scribe.specs.Writing.{content_length}
use Rattle.scribe.proofs.Record.{ready_long, front_part, committers_part, site_part, record_site, record_none}
use Rattle.scribe.proofs.put_record.Goals as goal

-- as many elements written in the place of a part: the list stays as long
kept : (a k : ℕ) (r ys : List ℕ) → a + k ≤ length r → length ys ≡ length (cut a k r) → length (put a k r ys) ≡ length r
kept a k r ys h e = length_put a k r ys h (e ∙ length_cut a k r h)

pub overflow_sub-rest : goal.overflow_sub-rest
overflow_sub-rest c =
    let r : 14 + content_length c.args.numbers.now c.args.names.now ≤ length c.args.slot.now = ready_long _ _ _ _ _ _ _ _ c.requires in
    omega arith

pub slice_bounds-put_front-end : goal.slice_bounds-put_front-end
slice_bounds-put_front-end c =
    let r : 14 + content_length c.args.numbers.now c.args.names.now ≤ length c.args.slot.now = ready_long _ _ _ _ _ _ _ _ c.requires in
    omega arith

pub put_front-requires : goal.put_front-requires
put_front-requires c = search front_part

pub slice_bounds-put_committers-end : goal.slice_bounds-put_committers-end
slice_bounds-put_committers-end c =
    let r : 14 + content_length c.args.numbers.now c.args.names.now ≤ length c.args.slot.now = ready_long _ _ _ _ _ _ _ _ c.requires in
    omega arith

pub put_committers-requires : goal.put_committers-requires
put_committers-requires c = search committers_part

pub slice_bounds-put_number-count : goal.slice_bounds-put_number-count
slice_bounds-put_number-count c =
    let r : 14 + content_length c.args.numbers.now c.args.names.now ≤ length c.args.slot.now = ready_long _ _ _ _ _ _ _ _ c.requires in
    omega arith

pub slice_bounds-put_number-start : goal.slice_bounds-put_number-start
slice_bounds-put_number-start c =
    let r : 14 + content_length c.args.numbers.now c.args.names.now ≤ length c.args.slot.now = ready_long _ _ _ _ _ _ _ _ c.requires in
    omega arith

pub put_number-requires : goal.put_number-requires
put_number-requires c =
    let size = content_length c.args.numbers.now c.args.names.now in
    let r : 14 + size ≤ length c.args.slot.now = ready_long _ _ _ _ _ _ _ _ c.requires in
    let fronted = put 0 14 c.args.slot.now c.put_front.new.slot in
    let listed = put 14 (14 + size - 14) fronted c.put_committers.new.slot in
    let f : length fronted ≡ length c.args.slot.now = kept 0 14 c.args.slot.now c.put_front.new.slot (omega arith) c.put_front.auto.slot in
    let g : length listed ≡ length fronted = kept 14 (14 + size - 14) fronted c.put_committers.new.slot (omega arith) c.put_committers.auto.slot in
    site_part _ _ _ _ _ _ _ _ c.requires listed c.if-version-eq-VERSION_2.true (g ∙ f)

pub returns-then-version-eq-VERSION_2 : goal.returns-then-version-eq-VERSION_2
returns-then-version-eq-VERSION_2 c = search record_site

pub returns-else-version-eq-VERSION_2 : goal.returns-else-version-eq-VERSION_2
returns-else-version-eq-VERSION_2 c = search record_none
