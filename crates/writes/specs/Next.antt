-- The next write as a value, and the list of all writes by places: a place below the count of rows is that row's turn in W1; then
-- come the rows' turns in W2, the one place of W3, and the rows' turns in W4.
use Rattle.std.specs.Prelude.{Option, Some, None, cond, List, [], ◌∷◌, ◌++◌, map, ℕ, zero, suc, ◌+◌, ◌-◌, length, ltb, eqb}
use Rattle.target.specs.declared.NameNumber.{NameNumber}
use Rattle.transaction.specs.declared.PackedRefs.{PackedRefs}
use Rattle.transaction.specs.declared.Edit.{Edit}
use Rattle.transaction.specs.Change.{new_value}
use Rattle.model.specs.Store.{Store, rows_in, mode_in}
use Rattle.model.specs.Rows.{name_in, change_in, row_at}
use Rattle.model.specs.Due.{Stamp, due_line}
use Rattle.model.specs.Writes.{Write, PackedEdit, loose_write, writes_loose, packed_edits, w2, w3, w4}
use Rattle.model.specs.Writes.Write.{append_line, write_loose, remove_log, write_packed, remove_loose}
use Rattle.target.specs.declared.ObjectNumber.{ObjectNumber}
use Rattle.writes.specs.declared.NextWrite.{NextWrite}
use Rattle.writes.specs.declared.NextWrite.TheVariants.{AppendLine, WriteLoose, RemoveLog, WritePacked, RemoveLoose}

abbrev pub rows_of : Store → List Edit
rows_of s = rows_in s.prepared

abbrev pub mode_of : Store → PackedRefs
mode_of s = mode_in s.prepared

abbrev pub the_row : Store → ℕ → Edit
the_row s i = row_at (rows_of s) i

-- ---- what the code has as a packed edit or a write that may be missing, as the lists of the definitions

abbrev pub packed_list : NameNumber → Option (Option ObjectNumber) → List PackedEdit
packed_list n None = []
packed_list n (Some v) = record { name = n; value = v } ∷ []

-- the packed write's edits are those of the store
unfoldable pub write_list : Store → Option NextWrite → List Write
write_list s None = []
write_list s (Some (AppendLine l)) = append_line l ∷ []
write_list s (Some (WriteLoose n t)) = write_loose n t ∷ []
write_list s (Some (RemoveLog n)) = remove_log n ∷ []
write_list s (Some WritePacked) = write_packed (packed_edits s (mode_of s) (rows_of s)) ∷ []
write_list s (Some (RemoveLoose n)) = remove_loose n ∷ []

-- ---- the writes by places

-- W1's loose value
unfoldable pub loose_of : Store → PackedRefs → Edit → List Write
loose_of s mode r = cond (writes_loose s mode r) (loose_write (name_in r) (new_value (change_in r))) []

-- the places behind W1, counted from 0
abbrev pub later : Store → PackedRefs → List Edit → ℕ → List Write
later s mode rows j =
    cond (ltb j (length rows)) (w2 s (row_at rows j))
    (cond (eqb j (length rows)) (w3 s mode rows) (w4 s mode (row_at rows (j - length rows - 1))))

-- what a place has to write: W1 has two writes of a row at most, every other place one
abbrev pub first_by : Stamp → Store → PackedRefs → List Edit → ℕ → List Write
first_by stamp s mode rows k =
    cond (ltb k (length rows)) (map append_line (due_line stamp s (row_at rows k))) (later s mode rows (k - length rows))

abbrev pub second_by : Store → PackedRefs → List Edit → ℕ → List Write
second_by s mode rows k = cond (ltb k (length rows)) (loose_of s mode (row_at rows k)) []

unfoldable pub first_at : Stamp → Store → ℕ → List Write
first_at stamp s k = first_by stamp s (mode_of s) (rows_of s) k

unfoldable pub second_at : Store → ℕ → List Write
second_at s k = second_by s (mode_of s) (rows_of s) k

-- how many places there are
abbrev pub places : Store → ℕ
places s = length (rows_of s) + length (rows_of s) + length (rows_of s) + 1

-- the writes of the places from k on, m of them
unfoldable pub ahead : Stamp → Store → ℕ → ℕ → List Write
ahead stamp s k zero = []
ahead stamp s k (suc m) = first_at stamp s k ++ (second_at s k ++ ahead stamp s (suc k) m)
