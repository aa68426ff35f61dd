-- What a part of prepare that builds rows in the region's own table leaves, as the model's outcome.
use Rattle.model.specs.declared.Refusal.{Refusal}
use Rattle.std.specs.Prelude.{◌≡◌, List, ℕ, Result, Ok, Err}
use Rattle.transaction.specs.declared.Edit.{Edit}
use Rattle.model.specs.Store.{rows_in, with_rows}
use Rattle.region.specs.Region.{view, Laid}

abbrev pub outcome_by : {A : Type 0} → (Result (Unit {0}) Refusal) → A → Result A Refusal
outcome_by (Ok tt) a = Ok a
outcome_by (Err q) a = Err q

-- the region r, made of r₀: its rows are what passed, and whatever they are, nothing but the rows differs
pub record Taken (r₀ r : List ℕ) (j : (Result (Unit {0}) Refusal)) (o : Result (List Edit) Refusal) : Type 0 where
  pub laid : Laid r
  pub seen : view r ≡ with_rows (view r₀) (rows_in (view r).prepared)
  pub whole : outcome_by j (rows_in (view r).prepared) ≡ o
