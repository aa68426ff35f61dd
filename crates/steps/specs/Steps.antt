-- What the functions below the calls come to. The laws of the calls' crates show that these are what the model's `step` does.
use Rattle.target.specs.declared.NameNumber.{NameNumber}
use Rattle.target.specs.declared.ObjectNumber.{ObjectNumber}
use Rattle.std.specs.Prelude.{Bool, ◌&&◌, cond, List, ℕ, zero, suc, ◌-◌, length, get_or, eqb, ltb, Option, Some, None}
use Rattle.model.specs.declared.Line.{Line}
use Rattle.model.specs.Store.{Store, Entry, no_line, is_id, put_lock, change_entry}
use Rattle.model.specs.Commit.{freed}

-- ---- names

abbrev pub found_option : Option NameNumber → Option ℕ
found_option None = None
found_option (Some n) = Some n.0

-- ---- loads

abbrev pub packed_by : Bool → ℕ → ℕ → Option (Option ObjectNumber)
packed_by packable zero x = cond (eqb x 0) (Some None) None
packed_by packable (suc zero) x = cond (is_id x && packable) (Some (Some (record { 0 = x }))) None
packed_by packable (suc (suc k)) x = None

-- ---- locks

-- the first k names' locks freed
unfoldable pub free_names : ℕ → Store → Store
free_names zero s = s
free_names (suc k) s = change_entry (λ (e : Entry). put_lock (freed e.lock) e) k (free_names k s)

-- ---- lines

abbrev pub line_among : ℕ → List Line → Option Line
line_among place ls = cond (ltb place (length ls)) (Some (get_or ls place no_line)) None

-- of the lines to pass, how many are left after one that is the name's or not
abbrev pub left_after : Bool → ℕ → ℕ
left_after same left = cond same (left - 1) left
