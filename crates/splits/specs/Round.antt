-- A round of R1 place by place over the region's own table. A row in the table has no mark that its name is to be followed, so
-- that is told beside it: a flag for each row of the round.
use Rattle.target.specs.declared.NameNumber.{NameNumber}
use Rattle.std.specs.Prelude.{Bool, true, false, cond, List, [], ◌∷◌, ◌++◌, map, ℕ, ◌+◌, set, drop, Option, Some, None}
use Rattle.transaction.specs.declared.RefEdit.{RefEdit}
use Rattle.transaction.specs.declared.Edit.{Edit}
use Rattle.transaction.specs.Change.{row_of}
use Rattle.model.specs.Basic.{any}
use Rattle.model.specs.Store.{Store, entry_of}
use Rattle.model.specs.Rows.{name_in, change_in, row_at}
use Rattle.model.specs.Split.{link_in, settled_with, settled, child_of}

-- a row as the table has it
abbrev pub hide : Edit → Edit
hide r = settled_with (change_in r) r

-- the rows of edits as the table has them
abbrev pub hidden_rows : List RefEdit → List Edit
hidden_rows es = map (λ (e : RefEdit). hide (row_of e)) es

abbrev pub followed : Store → Bool → Edit → Option NameNumber
followed s follow r = cond follow (link_in (entry_of s (name_in r)).loose) None

abbrev pub step_by : Option NameNumber → ℕ → List Edit → List Edit
step_by o i rows = set rows i (settled o (row_at rows i)) ++ map hide (child_of o i (row_at rows i))

unfoldable pub stepped : Store → Bool → ℕ → List Edit → List Edit
stepped s follow i rows = step_by (followed s follow (row_at rows i)) i rows

-- the rows from place i on, one for each flag
unfoldable pub steps : Store → List Bool → ℕ → List Edit → List Edit
steps s [] i rows = rows
steps s (f ∷ fs) i rows = steps s fs (i + 1) (stepped s f i rows)

-- a name was found
abbrev pub is_there : Option NameNumber → Bool
is_there None = false
is_there (Some n) = true

-- some row from place i on leads on to another name
unfoldable pub leads_on : Store → ℕ → List Edit → Bool
leads_on s i rows = any (λ (r : Edit). is_there (followed s true r)) (drop i rows)
