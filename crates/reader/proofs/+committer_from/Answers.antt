use Prim.Native.Nat.{◌+◌, ◌≤◌}
use native.Mathlib.Omega.{arith}
use lib.ListN.{length}
use borrow.Author.Rules.{rules}
use Rattle.reader.proofs.Places.{number_there, size_there, room_there, first_placed, behind_room, next_there, next_placed, next_at}
use Rattle.reader.proofs.+committer_from.Goals as goal

pub get_at-number-requires : goal.get_at-number-requires
get_at-number-requires t c = (search number_there, search rules)

pub get_at-length-requires : goal.get_at-length-requires
get_at-length-requires t c = (search size_there, search rules)

pub returns-then-place-eq0 : goal.returns-then-place-eq0
returns-then-place-eq0 t c = search first_placed

pub overflow_add-behind : goal.overflow_add-behind
overflow_add-behind t c =
    let h : 3 + c.get_at-length.result ≤ length c.args.list.now = search behind_room in
    record { fits = omega arith }

pub slice_bounds-committer_from-count : goal.slice_bounds-committer_from-count
slice_bounds-committer_from-count t c = search behind_room

pub slice_bounds-committer_from-start : goal.slice_bounds-committer_from-start
slice_bounds-committer_from-start t c = search behind_room

pub overflow_sub-room : goal.overflow_sub-room
overflow_sub-room t c = search room_there

pub committer_from-found-requires : goal.committer_from-found-requires
committer_from-found-requires t c = (search rules, search next_there)

pub overflow_add-result : goal.overflow_add-result
overflow_add-result t c =
    let h : 3 + c.get_at-length.result + c.committer_from-found.result.at ≤ length c.args.list.now = search next_at in
    record { fits = omega arith }

pub returns : goal.returns
returns t c = search next_placed
