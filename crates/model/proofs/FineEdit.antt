-- What the rules say of one row. Assumes nothing.
use mathlib.Core.Path.{◌≡◌}
use mathlib.Core.Bool.{true}
use mathlib.Core.List.{List}
use Prim.Native.Nat.{ℕ, ◌<◌, ◌^◌}
use lib.ListN.{get_or}
use lib.Dec.{ltb}
use borrow.Author.Tests.{ltb-true}
use Rattle.transaction.specs.declared.Edit.{Edit}
use Rattle.transaction.specs.Change.{new_value, previous_value, message_of}
use Rattle.model.specs.Rows.{name_in, change_in, row_at}
use Rattle.model.specs.Fine.{fine_option, row_tests, fine_row}
use Rattle.model.proofs.Rules.{every_at}

-- what the rules say of a row that its writes are made of
pub record FineEdit (n : ℕ) (r : Edit) : Type 0 where
  pub name : ltb (name_in r).0 n ≡ true
  pub message : ltb (message_of (change_in r)) (2 ^ 16) ≡ true
  pub previous : fine_option n (previous_value (change_in r)) ≡ true
  pub new : fine_option n (new_value (change_in r)) ≡ true
  pub leaf : ltb r.leaf_referent_previous_oid.0 (2 ^ 64) ≡ true

pub row_edit : (n : ℕ) (rows : List Edit) (i : ℕ) → fine_row n rows i ≡ true → FineEdit n (row_at rows i)
unfolding fine_row
row_edit n rows i h =
    record { name = at 0; message = at 2; previous = at 3; new = at 4; leaf = at 7 }
  where
    at : (k : ℕ) → get_or (row_tests n rows i) k true ≡ true
    at k = every_at (row_tests n rows i) k h

pub row_name : (n : ℕ) (rows : List Edit) (i : ℕ) → fine_row n rows i ≡ true → (name_in (row_at rows i)).0 < n
row_name n rows i h = ltb-true (name_in (row_at rows i)).0 n (row_edit n rows i h).name
