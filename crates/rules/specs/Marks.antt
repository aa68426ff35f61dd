-- What the test gathers on its way, to tell things apart: marks of names, and which names the rows have so far.
use Rattle.std.specs.Prelude.{◌≡◌, Bool, true, not, List, [], ◌∷◌, ℕ, ◌+◌, ◌*◌, ◌%◌, ◌<◌, length, get_or, eqb}
use Rattle.word.specs.Flags.{Flags}
use Rattle.transaction.specs.declared.Edit.{Edit}
use Rattle.model.specs.Basic.{below}
use Rattle.model.specs.Store.{Store, count, entry_at, rows_in}
use Rattle.model.specs.Rows.{name_in, row_at}
use Rattle.rules.specs.Tests.{row_test}

-- Names that are the same have the same mark, and that is all that is asked of it. Every byte enters, and 32 bits stay of what came
-- before it.
unfoldable pub mark_on : ℕ → List ℕ → ℕ
mark_on acc [] = acc
mark_on acc (b ∷ bs) = mark_on (acc % 4294967296 * 257 + b) bs

unfoldable pub mark_of : List ℕ → ℕ
mark_of name = mark_on 0 name

-- the mark of each name, by its number
pub record Marked (s : Store) (marks : List ℕ) : Type 0 where
  pub size : length marks ≡ 256
  pub mark : (n : ℕ) → n < count s → get_or marks n 0 ≡ mark_of (entry_at s n).name

-- the number is the name of one of the first i rows
abbrev pub seen : List Edit → ℕ → ℕ → Bool
seen rows i n = not (below i (λ j. not (eqb n (name_in (row_at rows j)).0)))

-- the row's test; and if it passes, its name is among those seen
pub record Stood (s : Store) (i : ℕ) (ok : Bool) (flags : List Bool) : Type 0 where
  pub test : ok ≡ row_test s i
  pub more : ok ≡ true → Flags (seen (rows_in s.prepared) (i + 1)) flags
