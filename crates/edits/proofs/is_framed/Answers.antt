use Rattle.edits.proofs.Lists.{frame_short, frame_version, length_fits, frame_length, frame_many, frame_rest}
use borrow.Author.Rules.{rules}
use Rattle.edits.proofs.is_framed.Goals as goal

pub returns-then-list-lt-RECORDS : goal.returns-then-list-lt-RECORDS
returns-then-list-lt-RECORDS c = search frame_short

pub returns-then-byte_at-ne-VERSION : goal.returns-then-byte_at-ne-VERSION
returns-then-byte_at-ne-VERSION c = search frame_version

pub overflow_add-get_at : goal.overflow_add-get_at
overflow_add-get_at c =
    let l = length_fits c.args.list.now c.type_inv.list _ c.get_at.ensures in
    search rules

pub returns-then-get_at-list : goal.returns-then-get_at-list
returns-then-get_at-list c = search frame_length

pub returns-then-count-gt-LIMIT : goal.returns-then-count-gt-LIMIT
returns-then-count-gt-LIMIT c =
    frame_many c.args.list.now _ c.byte_at-count.ensures (search rules)

pub returns : goal.returns
returns c =
    search (frame_rest c.args.list.now c.type_inv.list)
