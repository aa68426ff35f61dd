-- What one name, one line and one row must pass: its own rules, and apart from every earlier one.
use Rattle.std.specs.Prelude.{Bool, ◌&&◌, ℕ, get_or}
use Rattle.model.specs.Basic.{below}
use Rattle.model.specs.Store.{Store, count, entry_at, no_line, rows_in}
use Rattle.model.specs.Fine.{fine_entry, fine_line, fine_row, apart_names, apart_rows}

unfoldable pub name_test : Store → ℕ → Bool
name_test s n = fine_entry (count s) (entry_at s n) && below n (apart_names s n)

unfoldable pub line_test : Store → ℕ → Bool
line_test s i = fine_line (count s) (get_or s.lines i no_line)

unfoldable pub row_test : Store → ℕ → Bool
row_test s i = fine_row (count s) (rows_in s.prepared) i && below i (apart_rows (rows_in s.prepared) i)
