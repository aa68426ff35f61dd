-- The packed write's edits over all rows, and what is known at a place. Assumes nothing.
use Rattle.std.specs.Prelude.{Option, Some, None, is_some}
use Rattle.target.specs.declared.ObjectNumber.{ObjectNumber}
use mathlib.Core.Path.{◌≡◌, refl, ap, ◌∙◌}
use mathlib.Core.Bool.{Bool, true, ◌||◌, not}
use mathlib.Core.List.{List, [], ◌∷◌, ◌++◌}
use Prim.Native.Nat.{ℕ, ◌-◌, ◌≤◌, ◌<◌}
use native.Mathlib.Omega.{arith}
use lib.ListN.{length}
use Rattle.target.specs.declared.NameNumber.{NameNumber}
use Rattle.transaction.specs.declared.PackedRefs.{PackedRefs}
use Rattle.transaction.specs.declared.Edit.{Edit}
use Rattle.transaction.specs.Change.{is_delete}
use Rattle.model.specs.Basic.{any, is_empty, collect}
use Rattle.model.specs.Store.{Store, count}
use Rattle.model.specs.Rows.{name_in, change_in}
use Rattle.model.specs.Due.{has_lines}
use Rattle.model.specs.Writes.{PackedEdit, packed_edit, packed_edits}
use Rattle.rows.specs.Rows.{Named}
use Rattle.writes.specs.Told.{tells, Told}
use Rattle.writes.specs.Next.{rows_of, mode_of, the_row, packed_list, places}

-- a row has an edit if the code has one
pub some_edit : (n : NameNumber) (o : Option (Option ObjectNumber)) (ps : List PackedEdit) (b : Bool) → packed_list n o ≡ ps → b ≡ is_some o → b ≡ not (is_empty ps)
some_edit n None ps b e h = h ∙ ap (λ (ps : List PackedEdit). not (is_empty ps)) e
some_edit n (Some v) ps b e h = h ∙ ap (λ (ps : List PackedEdit). not (is_empty ps)) e

any_collect : {A B : Type 0} (f : A → List B) (xs : List A) → any (λ (x : A). not (is_empty (f x))) xs ≡ not (is_empty (collect f xs))
any_collect f [] = refl
any_collect {A} {B} f (x ∷ xs) = go (f x) (any_collect f xs)
  where
    go : (ys : List B) → any (λ (x : A). not (is_empty (f x))) xs ≡ not (is_empty (collect f xs))
        → (not (is_empty ys) || any (λ (x : A). not (is_empty (f x))) xs) ≡ not (is_empty (ys ++ collect f xs))
    go [] h = h
    go (y ∷ ys) h = refl

pub edits_any : (s : Store) (mode : PackedRefs) → mode ≡ mode_of s → any (λ (r : Edit). not (is_empty (packed_edit s mode r))) (rows_of s)
    ≡ not (is_empty (packed_edits s (mode_of s) (rows_of s)))
edits_any s mode e = any_collect (packed_edit s mode) (rows_of s) ∙ ap (λ (m : PackedRefs). not (is_empty (packed_edits s m (rows_of s)))) e

pub gone_named : (s : Store) (n k : ℕ) (r : Edit) → Named s → n ≡ length (rows_of s) → k < places s → n ≤ k → n ≤ k - n → (k - n ≡ n → ⊥)
    → r ≡ the_row s (k - n - n - 1) → (name_in r).0 < count s
gone_named s n k r d e h l g ne er = rw er (d.named (k - n - n - 1) (omega arith))

-- what flags tell at a place
module _ (flags : List Bool) (s : Store) (k n : ℕ) (told : Told flags s (rows_of s) k) (en : n ≡ length (rows_of s)) where
  pub line_told : k < n → tells flags (the_row s k) ≡ has_lines s (name_in (the_row s k))
  line_told h = told.line k (omega arith) (omega arith)

  pub log_told : n ≤ k → k - n < n → is_delete (change_in (the_row s (k - n))) ≡ true
      → tells flags (the_row s (k - n)) ≡ has_lines s (name_in (the_row s (k - n)))
  log_told h g = told.log (k - n) (omega arith) (omega arith)
