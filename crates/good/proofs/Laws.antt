-- What the tests that passed say of the region, for the calls that ask it. Assumes nothing.
use mathlib.Core.Path.{◌≡◌, sym, ap, ◌∙◌}
use mathlib.Core.Bool.{Bool, true, not}
use mathlib.Core.List.{List}
use Prim.Native.Nat.{ℕ}
use Rattle.model.specs.Store.{Store}
use Rattle.model.specs.Fine.{fine_rows}
use Rattle.region.specs.Region.{layout, Laid}
use Rattle.region.proofs.Decode.{laid}
use Rattle.rows.specs.Rows.{Named}
use Rattle.rows.proofs.Named.{rows_named}

pub is_laid : (r : List ℕ) (b : Bool) → b ≡ layout r → b ≡ true → Laid r
is_laid r b e t = laid r (sym e ∙ t)

pub passed_named : (s : Store) (v b : Bool) → v ≡ true → v ≡ b → b ≡ fine_rows s → Named s
passed_named s v b t e q = rows_named s b q (ap not (sym e ∙ t))
