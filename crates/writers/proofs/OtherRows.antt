-- A store that is prepared, with other rows: it is the same store with the rows that were put last. Assumes nothing.
use Rattle.std.specs.Prelude.{Option, Some, None}
use mathlib.Core.Path.{◌≡◌, refl, sym, ap, ◌∙◌}
use mathlib.Core.Bool.{true, false≢true}
use mathlib.Core.List.{List}
use Prim.Native.Nat.{ℕ}
use Rattle.transaction.specs.declared.Edit.{Edit}
use Rattle.model.specs.Store.{Store, Prepared, rows_in, is_prepared, with_prepared, rows_as, with_rows}
use Rattle.region.specs.Region.{view, Became}

rows_as_lem : (l : List Edit) (q : Option Prepared) → is_prepared q ≡ true → rows_in (rows_as l q) ≡ l
rows_as_lem l None y = absurd (false≢true y)
rows_as_lem l (Some p) y = refl

prepared_as : (l : List Edit) (q : Option Prepared) → is_prepared (rows_as l q) ≡ is_prepared q
prepared_as l None = refl
prepared_as l (Some p) = refl

pub as_as : (l m : List Edit) (q : Option Prepared) → rows_as m (rows_as l q) ≡ rows_as m q
as_as l m None = refl
as_as l m (Some p) = refl

as_own : (q : Option Prepared) → rows_as (rows_in q) q ≡ q
as_own None = refl
as_own (Some p) = refl

pub own_rows : (s : Store) → s ≡ with_rows s (rows_in s.prepared)
own_rows s = sym (ap (with_prepared s) (as_own s.prepared))

pub other_rows : (s t : Store) (l m : List Edit) → t ≡ with_rows s l → with_rows t m ≡ with_rows s m
other_rows s t l m e = ap (λ (t : Store). with_rows t m) e ∙ ap (with_prepared s) (as_as l m s.prepared)

module _ (r : List ℕ) (s : Store) (l : List Edit) (b : Became r (with_rows s l)) (y : is_prepared s.prepared ≡ true) where
  pub rows_seen : rows_in (view r).prepared ≡ l
  rows_seen = ap (λ (t : Store). rows_in t.prepared) b.seen ∙ rows_as_lem l s.prepared y

  pub still_prepared : is_prepared (view r).prepared ≡ true
  still_prepared = ap (λ (t : Store). is_prepared t.prepared) b.seen ∙ prepared_as l s.prepared ∙ y
