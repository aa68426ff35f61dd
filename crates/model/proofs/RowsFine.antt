-- What the rules ask of rows by themselves, whatever store they are prepared in. Assumes nothing.
use Prim.Native.Nat.{ℕ, ◌≤◌, ◌<◌}
use mathlib.Core.List.{List}
use lib.ListN.{length}
use Rattle.transaction.specs.declared.Edit.{Edit}
use Rattle.model.specs.Basic.{Below}
use Rattle.model.specs.Fine.{fine_row, apart_rows}

-- where n names are held
pub record RowsFine (n : ℕ) (rows : List Edit) : Type 0 where
  pub bounded : length rows ≤ 160
  pub each : Below (length rows) (fine_row n rows)
  pub distinct : (i : ℕ) → i < length rows → Below i (apart_rows rows i)
