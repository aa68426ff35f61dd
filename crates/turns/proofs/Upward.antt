-- Among the rows that splitting leaves every parent is an earlier row: a round's children have theirs among the rows before them.
-- Assumes nothing.
use Rattle.std.specs.Prelude.{Option, Some, None, Ok}
use Rattle.target.specs.declared.NameNumber.{NameNumber}
use mathlib.Core.Path.{◌≡◌, refl, sym, subst}
use mathlib.Core.Bool.{true}
use mathlib.Core.List.{List, [], ◌∷◌, ◌++◌, map}
use Prim.Native.Nat.{ℕ, zero, suc, ◌+◌, ◌≤◌, ◌<◌}
use native.Mathlib.Omega.{arith}
use lib.ListN.{length, length-append, length-map}
use lib.Dec.{ltb}
use borrow.Author.Tests.{lt-ltb}
use Rattle.transaction.specs.declared.RefEdit.{RefEdit}
use Rattle.transaction.specs.declared.Edit.{Edit}
use Rattle.transaction.specs.Change.{row_of}
use Rattle.model.specs.Store.{Store, no_row}
use Rattle.model.specs.Split.{referent, settled, child_of, settle_all, children_from, rounds, splits}
use Rattle.model.specs.Fine.{fine_parent, Upward}
use Rattle.model.proofs.Binds.{refuse_pass, pass_is, cond_pass}
use Rattle.model.proofs.All.{All, all_at, all_append, at_append}
use Rattle.model.proofs.All.All.{done, also}
use Rattle.model.proofs.Climbs.{parent_at, Earlier, parent_later}

-- rows whose parents are among the first n
abbrev Among : ℕ → List Edit → Type 0
Among n rows = All (λ r. fine_parent n r.parent_index ≡ true) rows

settled_parent : (o : Option NameNumber) (r : Edit) → (settled o r).parent_index ≡ r.parent_index
settled_parent None r = refl
settled_parent (Some m) r = refl

settled_among : (s : Store) (n : ℕ) (rows : List Edit) → Among n rows → Among n (settle_all s rows)
unfolding settle_all
settled_among s n [] v = done
settled_among s n (r ∷ rs) (also p ps) =
    also (subst (λ (q : Option ℕ). fine_parent n q ≡ true) (sym (settled_parent (referent s r) r)) p) (settled_among s n rs ps)

child_among : (o : Option NameNumber) (n i : ℕ) (r : Edit) → i < n → Among n (child_of o i r)
child_among None n i r h = done
child_among (Some m) n i r h = also (lt-ltb i n h) done

children_among : (s : Store) (n i : ℕ) (rs : List Edit) → i + length rs ≤ n → Among n (children_from s i rs)
children_among s n i [] h = done
children_among s n i (r ∷ rs) h = all_append (child_among (referent s r) n i r (omega arith)) (children_among s n (i + 1) rs (omega arith))

-- rows behind rows
behind_earlier : (old more : List Edit) → Earlier old → Among (length old) more → Earlier (old ++ more)
behind_earlier old more w v =
    at_append (λ i r. fine_parent i r.parent_index ≡ true) old more no_row w
    (λ k h. parent_later (length old) (length old + k) (parent_at more k) (omega arith) (all_at v k no_row h))

rounds_earlier : (s : Store) (left : ℕ) (old newest split : List Edit) → Earlier old → Among (length old) newest
    → rounds s left old newest ≡ Ok split → Earlier split
unfolding rounds settle_all
rounds_earlier s zero old [] split w v e = subst Earlier (pass_is e) w
rounds_earlier s zero old (r ∷ rs) split w v e = absurd (refuse_pass e)
rounds_earlier s (suc left) old [] split w v e = subst Earlier (pass_is e) w
rounds_earlier s (suc left) old (r ∷ rs) split w v e =
    let next : List Edit = old ++ settle_all s (r ∷ rs) in
    let n : length next ≡ length old + length (r ∷ rs) = simp (length-append, length-map) in
    rounds_earlier s left next (children_from s (length old) (r ∷ rs)) split
    (behind_earlier old (settle_all s (r ∷ rs)) w (settled_among s (length old) (r ∷ rs) v))
    (children_among s (length next) (length old) (r ∷ rs) (omega arith))
    (cond_pass (ltb 160 (length old + length (r ∷ rs))) _ _ split e).1

edits_among : (edits : List RefEdit) → Among 0 (map row_of edits)
edits_among [] = done
edits_among (e ∷ es) = also refl (edits_among es)

pub splits_upward : (s : Store) (edits : List RefEdit) (rows : List Edit) → splits s (map row_of edits) ≡ Ok rows → Upward (length rows) rows
unfolding splits
splits_upward s edits rows e =
    record { up = rounds_earlier s 5 [] (map row_of edits) rows (λ i h. absurd (omega arith)) (edits_among edits) e }
