-- A transaction that prepare accepts leaves a sound store. Assumes nothing.
use Rattle.std.specs.Prelude.{None, Ok}
use mathlib.Core.Path.{◌≡◌, sym, ap, subst, ◌∙◌}
use mathlib.Core.Bool.{Bool, ◌&&◌}
use mathlib.Core.List.{List, map}
use Prim.Native.Nat.{ℕ, ◌+◌, ◌≤◌}
use lib.ListN.{length}
use lib.Dec.{ltb}
use borrow.Author.Tests.{ltb-false}
use Rattle.transaction.specs.declared.PackedRefs.{PackedRefs}
use Rattle.transaction.specs.declared.RefEdit.{RefEdit}
use Rattle.transaction.specs.declared.Edit.{Edit}
use Rattle.transaction.specs.Change.{row_of}
use Rattle.transaction.specs.Fields.{packed_refs_of}
use Rattle.model.specs.declared.Lock.TheVariants.{Foreign}
use Rattle.model.specs.declared.Refusal.TheVariants.{Malformed, PackedTransactionAcquire, LogFull, WrongState}
use Rattle.model.specs.Basic.{any}
use Rattle.model.specs.Store.{Store, Prepared, count, is_prepared, is_lock}
use Rattle.model.specs.Rows.{counts, opens}
use Rattle.model.specs.EditList.{edits_of}
use Rattle.model.specs.Outcome.{refuse_if, or_refuse}
use Rattle.model.specs.Split.{splits, one_name_one_edit}
use Rattle.model.specs.Due.{due_lines}
use Rattle.model.specs.Prepare.{registered, opening, turns_from, rows_for, held}
use Rattle.model.specs.Fine.{Fine}
use Rattle.model.specs.Reached.{Sound}
use Rattle.model.proofs.Binds.{pass_then, refuse_if_inv, not_prepared, or_refuse_inv, cond_pass, pass_is}
use Rattle.model.proofs.RowsFine.{RowsFine}
use Rattle.model.proofs.SplitFine.{split_fine}
use Rattle.model.proofs.HeldSound.{held_sound}

-- where R2 does not refuse, it answers whether the packed table is opened
opening_is : (s : Store) (mode : PackedRefs) (rows : List Edit) (opened : Bool) → opening s mode rows ≡ Ok opened → opens s mode rows ≡ opened
unfolding opening
opening_is s mode rows opened e =
    pass_is
    (cond_pass (any (counts s) rows && is_lock Foreign s.packed_lock) PackedTransactionAcquire (Ok (opens s mode rows)) opened e).1

-- what prepare came through, part by part, with what each gave to the next
pub record Came (list : List ℕ) (number : ℕ) (s : Store) (p : Prepared) : Type 0 where
  pub edits : List RefEdit
  pub mode : PackedRefs
  pub split : List Edit
  pub rows : List Edit
  pub idle : s.prepared ≡ None
  pub is_list : or_refuse Malformed (edits_of list) ≡ Ok edits
  pub is_mode : or_refuse Malformed ((packed_refs_of number)) ≡ Ok mode
  pub known : registered s edits ≡ Ok tt
  pub is_split : splits s (map row_of edits) ≡ Ok split
  pub single : one_name_one_edit s split ≡ Ok tt
  pub opened : opening s mode split ≡ Ok (opens s mode split)
  pub turned : turns_from s mode (opens s mode split) (length split) 0 split ≡ Ok rows
  pub room : length s.lines + length (due_lines s rows) ≤ 1024
  pub left : p ≡ record { mode = mode; rows = rows }

pub came : (list : List ℕ) (number : ℕ) (s : Store) (p : Prepared) → rows_for list number s ≡ Ok p → Came list number s p
unfolding rows_for
came list number s p e =
    pass_then (refuse_if (is_prepared s.prepared) WrongState) _ p e λ _ e₁ h₁.
    pass_then (or_refuse Malformed (edits_of list)) _ p h₁ λ edits e₂ h₂.
    pass_then (or_refuse Malformed ((packed_refs_of number))) _ p h₂ λ mode e₃ h₃.
    pass_then (registered s edits) _ p h₃ λ _ e₄ h₄.
    pass_then (splits s (map row_of edits)) _ p h₄ λ split e₅ h₅.
    pass_then (one_name_one_edit s split) _ p h₅ λ _ e₆ h₆.
    pass_then (opening s mode split) _ p h₆ λ opened e₇ h₇.
    pass_then (turns_from s mode opened (length split) 0 split) _ p h₇ λ rows e₈ h₈.
    pass_then (refuse_if (ltb 1024 (length s.lines + length (due_lines s rows))) LogFull) _ p h₈ λ _ e₉ h₉.
    let is : opened ≡ opens s mode split = sym (opening_is s mode split opened e₇) in
    record {
      edits = edits;
      mode = mode;
      split = split;
      rows = rows;
      idle = not_prepared s.prepared (refuse_if_inv _ WrongState e₁);
      is_list = e₂;
      is_mode = e₃;
      known = e₄;
      is_split = e₅;
      single = e₆;
      opened = e₇ ∙ ap Ok is;
      turned = subst (λ (o : Bool). turns_from s mode o (length split) 0 split ≡ Ok rows) is e₈;
      room = ltb-false 1024 (length s.lines + length (due_lines s rows)) (refuse_if_inv _ LogFull e₉);
      left = sym (pass_is h₉);
    }

pub came_split : (list : List ℕ) (number : ℕ) (s : Store) (p : Prepared) → Fine s → (c : Came list number s p) → RowsFine (count s) c.split
came_split list number s p f c =
    split_fine s f list c.edits c.split (or_refuse_inv Malformed (edits_of list) c.edits c.is_list) c.known c.is_split c.single

pub prepare_sound : (s : Store) → Fine s → (list : List ℕ) (number : ℕ) (p : Prepared) → rows_for list number s ≡ Ok p → Sound (held p s)
prepare_sound s f list number p e =
    let c = came list number s p e in
    rw c.left
    (held_sound s f c.idle c.mode c.split c.rows (came_split list number s p f c) c.turned c.room)
