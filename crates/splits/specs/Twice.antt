-- Names that stand twice among the rows, from a place on.
use Rattle.target.specs.declared.NameNumber.{NameNumber}
use Rattle.std.specs.Prelude.{◌≡◌, Bool, List, map, ℕ, ◌+◌, drop, Option}
use Rattle.word.specs.Flags.{Flags}
use Rattle.target.specs.Target.{same_name}
use Rattle.transaction.specs.declared.Edit.{Edit}
use Rattle.model.specs.Basic.{any}
use Rattle.model.specs.Store.{Store}
use Rattle.model.specs.Rows.{name_in, row_at}
use Rattle.model.specs.Split.{repeated, least}

-- the numbers of the names that rows from place i on have
unfoldable pub behind : List Edit → ℕ → ℕ → Bool
behind rows i n = any (same_name (record { 0 = n })) (map name_in (drop i rows))

-- the answer of row i, and the flags with its own up
pub record Repeats (rows : List Edit) (i : ℕ) (again : Bool) (flags : List Bool) : Type 0 where
  pub answer : again ≡ any (same_name (name_in (row_at rows i))) (map name_in (drop (i + 1) rows))
  pub up : Flags (behind rows i) flags

-- the least of those that stand twice from place i on
unfoldable pub least_from : Store → List Edit → ℕ → Option NameNumber
least_from s rows i = least s (repeated (map name_in (drop i rows)))
