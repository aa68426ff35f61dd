-- What the code has as a move or a line that may be missing, as the lists of the definitions.
use Rattle.std.specs.Prelude.{Bool, List, [], ◌∷◌, ℕ, Option, Some, None}
use Rattle.model.specs.declared.Line.{Line}
use Rattle.model.specs.Store.{Store}
use Rattle.model.specs.Due.{Move, has_lines}
use Rattle.target.specs.declared.ObjectNumber.{ObjectNumber}

abbrev pub move_list : Option (ObjectNumber × ObjectNumber) → List Move
move_list None = []
move_list (Some m) = record { previous = m.0; new = m.1 } ∷ []

abbrev pub line_list : Option Line → List Line
line_list None = []
line_list (Some l) = l ∷ []

-- the names that have lines, by number
abbrev pub lined : Store → ℕ → Bool
lined s n = has_lines s (record { 0 = n })
