-- The edits of a list that is well formed, and such a list whose numbers are all of registered names.
use Rattle.std.specs.Prelude.{◌≡◌, true, List, [], ℕ, ◌≤◌, None, unwrap_or}
use Rattle.word.specs.Codec.{is_some}
use Rattle.transaction.specs.declared.RefEdit.{RefEdit}
use Rattle.model.specs.Store.{no_row}
use Rattle.model.specs.Basic.{collect}
use Rattle.model.specs.EditList.{edit_of, edits_of, numbers_of, first_out}

-- its edits, none where it is malformed
unfoldable pub edits_in : List ℕ → List RefEdit
edits_in l = unwrap_or (edits_of l) []

-- what stands past the edits, where nothing reads
abbrev pub no_edit : RefEdit
no_edit = no_row.update

-- the edit of a record
unfoldable pub edit_in : List ℕ → RefEdit
edit_in r = unwrap_or (edit_of r) no_edit

-- a list that is well formed, and whose name numbers are all below a count of at most 256
pub record Registered (l : List ℕ) : Type 0 where
  pub formed : is_some (edits_of l) ≡ true
  pub names : ℕ
  pub few : names ≤ 256
  pub all : first_out names (collect numbers_of (edits_in l)) ≡ None
