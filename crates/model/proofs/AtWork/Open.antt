-- Every definition of the model and of the tables opened at once, for claims that are proved by computing.
use Rattle.word.specs.Be.{val, val_on, be, be_on}
use Rattle.model.specs.Basic.{below}
use Rattle.model.specs.Names.{beneath, is_special, is_component, is_ref, is_name, packable, logs}
use Rattle.model.specs.Store.{lines_of}
use Rattle.model.specs.Read.{reading}
use Rattle.model.specs.Rows.{ancestors, topmost, counts, opens, is_direct, keeps_lock}
use Rattle.model.specs.Beneath.{loose_above, loose_beneath, would_write, meets_earlier, conflicts}
use Rattle.model.specs.EditList.{edit_of, edits_from, is_framed, edits_of, numbers_of}
use Rattle.model.specs.Split.{referent, settle_all, rounds, splits, one_name_one_edit}
use Rattle.model.specs.Due.{is_logged, due_line}
use Rattle.model.specs.Prepare.{registered, opening, turned, turn, turns_from, rows_for, held}
use Rattle.model.specs.Writes.{w1, w2, packed_edit, w3, w4, ordered_writes, apply}
use Rattle.model.specs.Commit.{released, run, committing}
use Rattle.model.specs.Fine.{fine_entry, fine_line, fine_row, kept_for, fine_lock, alone_loose, clear_row, fine_names, fine_lines, fine_rows, fine_locks, fine_room, fine_nests, fine}
use Rattle.model.specs.Load.{started, name_added, bytes_given, nests, loose_loaded, packed_loaded, relocked, placed, lifted}
use Rattle.model.specs.Calls.{rows_prepared, committed, rolled_back, name_read, line_read, row_found, row_read, step}
use Rattle.model.specs.Numbers.{refusal_answer, answer_of}
use Rattle.model.proofs.AtWork.Cases.{list}

unfoldable pub open_all : Unit {0}
unfolding val val_on be be_on below beneath is_special is_component is_ref is_name packable logs lines_of reading ancestors topmost counts opens is_direct keeps_lock loose_above loose_beneath would_write meets_earlier conflicts edit_of edits_from is_framed edits_of numbers_of referent settle_all rounds splits one_name_one_edit is_logged due_line registered opening turned turn turns_from rows_for held w1 w2 packed_edit w3 w4 ordered_writes apply released run committing fine_entry fine_line fine_row kept_for fine_lock alone_loose clear_row fine_names fine_lines fine_rows fine_locks fine_room fine_nests fine started name_added bytes_given nests loose_loaded packed_loaded relocked placed lifted rows_prepared committed rolled_back name_read line_read row_found row_read step refusal_answer answer_of list
open_all = tt
