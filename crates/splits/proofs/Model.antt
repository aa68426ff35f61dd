-- A round over the table is the model's round, with every row as the table has it. Assumes nothing.
use Rattle.std.specs.Prelude.{Option, Some, None}
use Rattle.target.specs.declared.NameNumber.{NameNumber}
use mathlib.Core.Path.{◌≡◌, refl, sym, ap, ◌∙◌}
use mathlib.Core.Bool.{Bool}
use mathlib.Core.List.{List, [], ◌∷◌, ◌++◌, map, append-nil, append_assoc}
use Prim.Native.Nat.{ℕ, ◌+◌}
use lib.ListN.{length, set, length-append}
use lib.Seq.{get_or-append_seam, set-append_seam}
use Rattle.transaction.specs.declared.RefEdit.{RefEdit}
use Rattle.transaction.specs.declared.Edit.{Edit}
use Rattle.model.specs.Store.{Store, no_row}
use Rattle.model.specs.Split.{referent, settled, child_of, settle_all, children_from}
use Rattle.splits.specs.Round.{hide, followed, step_by, stepped, steps}

pub map_append : {A B : Type 0} (f : A → B) (xs ys : List A) → map f (xs ++ ys) ≡ map f xs ++ map f ys
map_append f [] ys = refl
map_append f (x ∷ xs) ys = ap (λ (l : List _). f x ∷ l) (map_append f xs ys)

settled_hidden : (o : Option NameNumber) (r : Edit) → settled o (hide r) ≡ settled o r
settled_hidden None r = refl
settled_hidden (Some n) r = refl

child_hidden : (o : Option NameNumber) (i : ℕ) (r : Edit) → child_of o i (hide r) ≡ child_of o i r
child_hidden None i r = refl
child_hidden (Some n) i r = refl

-- whether edits, and rows, are to be followed
abbrev pub asked : List RefEdit → List Bool
asked es = map (λ (e : RefEdit). e.deref) es

abbrev pub flags : List Edit → List Bool
flags rows = map (λ (r : Edit). r.update.deref) rows

module _ (s : Store) where
  followed_is : (r : Edit) → followed s r.update.deref (hide r) ≡ referent s r
  unfolding referent
  followed_is r = refl

  one_step : (old rest : List Edit) (r : Edit)
      → stepped s r.update.deref (length old) (old ++ (hide r ∷ rest))
      ≡ (old ++ (settled (referent s r) r ∷ [])) ++ (rest ++ map hide (child_of (referent s r) (length old) r))
  unfolding stepped
  one_step old rest r =
      let o : (Option NameNumber) = referent s r in
      let l : List Edit = old ++ (hide r ∷ rest) in
      ap (λ (x : Edit). step_by (followed s r.update.deref x) (length old) l) (get_or-append_seam old (hide r) rest no_row)
      ∙ ap (λ (o : Option NameNumber). step_by o (length old) l) (followed_is r)
      ∙ ap (λ (x : Edit). set l (length old) (settled o x) ++ map hide (child_of o (length old) x)) (get_or-append_seam old (hide r) rest no_row)
      ∙ ap (λ (x : Edit). set l (length old) x ++ map hide (child_of o (length old) (hide r))) (settled_hidden o r)
      ∙ ap (λ (k : List Edit). set l (length old) (settled o r) ++ map hide k) (child_hidden o (length old) r)
      ∙ ap (λ (k : List Edit). k ++ map hide (child_of o (length old) r)) (set-append_seam old (hide r) rest (settled o r))
      ∙ (simp append_assoc)

  pub round_is : (new old kids : List Edit)
      → steps s (flags new) (length old) (old ++ (map hide new ++ kids))
      ≡ (old ++ settle_all s new) ++ (kids ++ map hide (children_from s (length old) new))
  unfolding steps settle_all
  round_is [] old kids = simp append-nil
  round_is (r ∷ rs) old kids =
      let o : (Option NameNumber) = referent s r in
      let x : List Edit = old ++ (settled o r ∷ []) in
      let k : List Edit = kids ++ map hide (child_of o (length old) r) in
      let n : length old + 1 ≡ length x = sym (length-append old (settled o r ∷ [])) in
      ap (steps s (flags rs) (length old + 1)) (one_step old (map hide rs ++ kids) r)
      ∙ ap (λ (l : List Edit). steps s (flags rs) (length old + 1) (x ++ l)) (append_assoc (map hide rs) kids _)
      ∙ ap (λ (i : ℕ). steps s (flags rs) i (x ++ (map hide rs ++ k))) n
      ∙ round_is rs x k
      ∙ ap (λ (i : ℕ). (x ++ settle_all s rs) ++ (k ++ map hide (children_from s i rs))) (sym n)
      ∙ (simp append_assoc)
      ∙ ap (λ (l : List Edit). old ++ (settled o r ∷ (settle_all s rs ++ (kids ++ l)))) (sym (map_append hide (child_of o (length old) r) (children_from s (length old + 1) rs)))
      ∙ (simp append_assoc)
