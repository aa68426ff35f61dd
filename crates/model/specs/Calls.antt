-- Transactions, reads and the packed table as text, and the step: the 15 calls as one function.
use Rattle.std.specs.Prelude.{true, not, List, ℕ, length, get_or, ltb, leb, Option, Some, None}
use Rattle.target.specs.declared.Found.{Found}
use Rattle.transaction.specs.declared.Edit.{Edit}
use Rattle.model.specs.declared.Refusal.TheVariants.{Malformed, WrongState, NothingThere, TextTooLong}
use Rattle.model.specs.Store.{Store, entry_of, lines_of, rows_in, mode_in, is_prepared, no_line}
use Rattle.model.specs.Read.{found_of}
use Rattle.model.specs.Rows.{row_at, opens}
use Rattle.model.specs.Outcome.{refuse_if}
use Rattle.model.specs.Prepare.{existing_found, rows_for, held}
use Rattle.model.specs.Commit.{Run, Stop, committing, released}
use Rattle.model.specs.Reply.{Call, Reply, ◌>>=◌, ◌>>◌, known, idle}
use Rattle.model.specs.Reply.Call.{start, add_name, name_bytes, load_loose, load_packed, place_lock, lift_lock, prepare, commit, rollback, read_name, read_line, read_row, write_packed, read_packed}
use Rattle.model.specs.Reply.Reply.{done, stopped}
use Rattle.model.specs.Reply.Given.{number, value, line, row, written}
use Rattle.model.specs.Load.{started, name_added, bytes_given, loose_loaded, packed_loaded, placed, lifted}
use Rattle.model.specs.PackedText.{packed_text, read_text, unpacked, loaded, judged}

-- ---- transactions

-- prepare gives the row count
unfoldable pub rows_prepared : List ℕ → ℕ → Store → Reply
rows_prepared list mode s = do
  p ← rows_for list mode s
  done (held p s) (number (length p.rows))

abbrev pub ended : Run → Option Stop → Reply
ended r None = done (released r.store) (number r.made)
ended r (Some why) = stopped why (released r.store) r.made

-- 15 while nothing is prepared, 2 a committer past 65,535. It reports the writes made
unfoldable pub committed : ℕ → ℕ → Store → Reply
committed committer allowance s = do
  refuse_if (not (is_prepared s.prepared)) WrongState
  refuse_if (ltb 65535 committer) Malformed
  let r : Run = committing (record { committer = committer }) allowance s in ended r r.stop

-- rollback gives the row count, 0 with nothing prepared
unfoldable pub rolled_back : Store → Reply
rolled_back s = done (released s) (number (length (rows_in s.prepared)))

-- ---- reads

unfoldable pub name_read : ℕ → Store → Reply
name_read n s = do
  known n s
  done s (value (found_of true (entry_of s (record { 0 = n }))))

-- a log line by name and place among its lines
unfoldable pub line_read : ℕ → ℕ → Store → Reply
line_read n place s = do
  known n s
  refuse_if (leb (length (lines_of s (record { 0 = n }))) place) NothingThere
  done s (line (get_or (lines_of s (record { 0 = n })) place no_line))

-- where R3 found the existing value of a prepared row. It is not stored: it follows from the values and from the opening
unfoldable pub row_found : Store → Edit → Found
row_found s r = existing_found s (opens s (mode_in s.prepared) (rows_in s.prepared)) r

unfoldable pub row_read : ℕ → Store → Reply
row_read place s = do
  refuse_if (leb (length (rows_in s.prepared)) place) NothingThere
  let r : Edit = row_at (rows_in s.prepared) place in done s (row r (row_found s r))

-- ---- the packed table as text

-- 32 exactly where the text is longer than the buffer
unfoldable pub text_written : ℕ → Store → Reply
text_written room s = do
  refuse_if (ltb room (length (packed_text s))) TextTooLong
  done s (written (packed_text s))

-- 15; then the first line at fault decides. The lines before it are loaded first, so that 19 of one of them comes before it. Reading gives
-- how many refs were read
unfoldable pub text_read : List ℕ → Store → Reply
text_read bytes s = do
  idle s
  t ← loaded (read_text bytes).refs (unpacked s)
  judged (read_text bytes).end
  done t (number (length (read_text bytes).refs))

-- ---- the step

unfoldable pub step : Call → Store → Reply
step (start k) s = started k
step (add_name bytes) s = name_added bytes s
step (name_bytes n) s = bytes_given n s
step (load_loose n kind x) s = loose_loaded n kind x s
step (load_packed n kind x) s = packed_loaded n kind x s
step (place_lock kind n) s = placed kind n s
step (lift_lock kind n) s = lifted kind n s
step (prepare list mode) s = rows_prepared list mode s
step (commit committer allowance) s = committed committer allowance s
step rollback s = rolled_back s
step (read_name n) s = name_read n s
step (read_line n place) s = line_read n place s
step (read_row place) s = row_read place s
step (write_packed room) s = text_written room s
step (read_packed bytes) s = text_read bytes s
