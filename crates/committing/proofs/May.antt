-- Whatever a place has to write can be made. Assumes nothing.
use Rattle.std.specs.Prelude.{Option, Some, None}
use mathlib.Core.Path.{◌≡◌, refl, sym, ap, ◌∙◌, subst}
use mathlib.Core.Bool.{Bool, true, false, ◌&&◌, ◌||◌, not, cond}
use mathlib.Core.List.{List, [], ◌∷◌, map}
use Prim.Native.Nat.{ℕ, ◌+◌, ◌≤◌, ◌<◌, ◌^◌}
use native.Mathlib.Omega.{arith}
use lib.ListN.{length}
use lib.Dec.{ltb, lit<}
use borrow.Author.Tests.{ltb-true}
use Rattle.target.specs.declared.ObjectNumber.{ObjectNumber}
use Rattle.target.specs.declared.Target.TheVariants.{Object, Symbolic}
use Rattle.target.specs.Target.{same_object}
use Rattle.transaction.specs.declared.PreviousValue.{PreviousValue}
use Rattle.transaction.specs.declared.PreviousValue.TheVariants.{Any, MustExist, MustNotExist, MustExistAndMatch, ExistingMustMatch}
use Rattle.transaction.specs.declared.Change.{Change}
use Rattle.transaction.specs.declared.Change.TheVariants.{Update, Delete}
use Rattle.transaction.specs.declared.Edit.{Edit}
use Rattle.transaction.specs.Change.{new_value, previous_value, expected_target, id_of, matched, is_log_only, is_delete}
use Rattle.model.specs.Basic.{is_empty, when}
use Rattle.model.specs.Store.{Store, count, entry_of, is_none}
use Rattle.model.specs.Rows.{name_in, change_in, opens, is_direct, keeps_lock}
use Rattle.model.specs.Due.{Move, or_leaf, move_of, has_lines, is_logged, line_by, due_line}
use Rattle.model.specs.Writes.{Write, packed_edits, w2, w3, w4}
use Rattle.model.specs.Writes.Write.{append_line, write_loose, remove_log, write_packed, remove_loose}
use Rattle.model.specs.Commit.{is_line, lines_in}
use Rattle.model.specs.Demand3.{by}
use Rattle.model.proofs.KeptCommit.{line_room}
use Rattle.slots.specs.Values.{FitsTarget, FitsLine}
use Rattle.slots.specs.Row.{FitsOption, FitsRow}
use Rattle.region.specs.Region.{view, Laid}
use Rattle.region.proofs.Decode.{laid_image}
use Rattle.writes.specs.declared.NextWrite.{NextWrite}
use Rattle.writes.specs.declared.NextWrite.TheVariants as next
use Rattle.writes.specs.Next.{rows_of, mode_of, the_row, write_list, loose_of, first_at, second_at, places}
use Rattle.rows.specs.Rows.{Named, Apart}
use Rattle.committing.specs.Running.{Makes}
use Rattle.writes.proofs.Place.{first_by_lem}
use Rattle.writes.proofs.Steps.{head_or, no_write, when_shape, loose_shape}
use Rattle.committing.proofs.Judge.{shape}

-- ---- a move fits where its row does

abbrev Fit : List Move → Type 0
Fit [] = Unit {0}
Fit (m ∷ ms) = (m.previous.0 < 2 ^ 64) × (m.new.0 < 2 ^ 64)

when_fit : (b : Bool) (m : Move) → (m.previous.0 < 2 ^ 64) × (m.new.0 < 2 ^ 64) → Fit (when b m)
when_fit true m f = f
when_fit false m f = tt

previous_fits : (e : PreviousValue) (leaf : ObjectNumber) → FitsOption (expected_target e) → leaf.0 < 2 ^ 64 → (or_leaf (id_of (matched e)) leaf).0 < 2 ^ 64
previous_fits Any leaf f h = h
previous_fits MustExist leaf f h = h
previous_fits MustNotExist leaf f h = h
previous_fits (MustExistAndMatch (Object o)) leaf f h = f.1
previous_fits (MustExistAndMatch (Symbolic n)) leaf f h = h
previous_fits (ExistingMustMatch t) leaf f h = h

moves_fit : (c : Change) (leaf : ObjectNumber) → FitsOption (previous_value c) → FitsOption (new_value c) → leaf.0 < 2 ^ 64 → Fit (move_of c leaf)
moves_fit (Delete e log) leaf f g h = tt
moves_fit (Update log e (Object o)) leaf f g h = when_fit (not (same_object (or_leaf (id_of (matched e)) leaf) o)) _ (previous_fits e leaf f h, g.1)
moves_fit (Update log Any (Symbolic n)) leaf f g h = tt
moves_fit (Update log MustExist (Symbolic n)) leaf f g h = tt
moves_fit (Update log MustNotExist (Symbolic n)) leaf f g h = tt
moves_fit (Update log (MustExistAndMatch t) (Symbolic n)) leaf f g h = tt
moves_fit (Update log (ExistingMustMatch (Object o)) (Symbolic n)) leaf f g h = (lit< tt, f.1)
moves_fit (Update log (ExistingMustMatch (Symbolic k)) (Symbolic n)) leaf f g h = tt

-- ---- what a write needs

abbrev Needs : Store → Write → Type 0
Needs s (append_line l) = (length s.lines < 1024) × FitsLine l
Needs s (write_loose n t) = (n.0 < count s) × FitsTarget t
Needs s (remove_log n) = Unit {0}
Needs s (write_packed ps) = Named s × Apart (rows_of s)
Needs s (remove_loose n) = n.0 < count s

needs_makes : (s : Store) (x : Option NextWrite) (w : Write) → write_list s x ≡ w ∷ [] → Needs s w → Makes s x
unfolding write_list Makes
needs_makes s None w e n = tt
needs_makes s (Some (next.AppendLine l)) w e n = subst (Needs s) (sym (ap (head_or w) e)) n
needs_makes s (Some (next.WriteLoose m t)) w e n = subst (Needs s) (sym (ap (head_or w) e)) n
needs_makes s (Some (next.RemoveLog m)) w e n = tt
needs_makes s (Some next.WritePacked) w e n = subst (Needs s) (sym (ap (head_or w) e)) n
needs_makes s (Some (next.RemoveLoose m)) w e n = subst (Needs s) (sym (ap (head_or w) e)) n

nothing_makes : (s : Store) → Makes s None
unfolding Makes
nothing_makes s = tt

module _ (r : List ℕ) (l : Laid r) (named : Named (view r)) (a : Apart (rows_of (view r))) where
  fits : (i : ℕ) → i < length (rows_of (view r)) → FitsRow (the_row (view r) i)
  fits i h = (laid_image r l).1.row i h

  line_needs : (c i : ℕ) (w : Write) → c ≤ 65535 → i < length (rows_of (view r)) → length (view r).lines + lines_in (w ∷ []) ≤ 1024
      → map append_line (due_line (by c) (view r) (the_row (view r) i)) ≡ w ∷ [] → Needs (view r) w
  unfolding due_line
  line_needs c i w hc h room e =
      go (is_logged (view r) x) (move_of (change_in x) x.leaf_referent_previous_oid)
      (moves_fit (change_in x) x.leaf_referent_previous_oid (fits i h).was (fits i h).new (fits i h).leaf) e
    where
      x : Edit
      x = the_row (view r) i

      go : (b : Bool) (ms : List Move) → Fit ms → map append_line (cond b (map (line_by (by c) (the_row (view r) i)) ms) []) ≡ w ∷ [] → Needs (view r) w
      go true [] f q = no_write w q
      go true (m ∷ ms) f q =
          subst (Needs (view r)) (ap (head_or w) q)
          (line_room w [] (view r) room (ap is_line (sym (ap (head_or w) q))), record { name = (fits i h).name; previous = f.0; new = f.1; committer = omega arith; message = (fits i h).message })
      go false ms f q = no_write w q

  loose_needs : (i : ℕ) (w : Write) → i < length (rows_of (view r)) → loose_of (view r) (mode_of (view r)) (the_row (view r) i) ≡ w ∷ [] → Needs (view r) w
  unfolding loose_of
  loose_needs i w h e =
      let sh = loose_shape (keeps_lock (view r) (mode_of (view r)) (the_row (view r) i)) (is_log_only (change_in (the_row (view r) i))) (is_direct (view r) (mode_of (view r)) (the_row (view r) i))
      (name_in (the_row (view r) i)) (new_value (change_in (the_row (view r) i))) w e in
      subst (Needs (view r)) sh.1 (named.named i h, subst FitsOption sh.3 (fits i h).new)

  log_needs : (i : ℕ) (w : Write) → w2 (view r) (the_row (view r) i) ≡ w ∷ [] → Needs (view r) w
  unfolding w2
  log_needs i w e =
      subst (Needs (view r))
      (when_shape (is_delete (change_in (the_row (view r) i)) && has_lines (view r) (name_in (the_row (view r) i))) (remove_log (name_in (the_row (view r) i))) w e) tt

  packed_needs : (w : Write) → w3 (view r) (mode_of (view r)) (rows_of (view r)) ≡ w ∷ [] → Needs (view r) w
  unfolding w3
  packed_needs w e =
      subst (Needs (view r))
      (when_shape (opens (view r) (mode_of (view r)) (rows_of (view r)) && not (is_empty (packed_edits (view r) (mode_of (view r)) (rows_of (view r)))))
      (write_packed (packed_edits (view r) (mode_of (view r)) (rows_of (view r)))) w e) (named, a)

  gone_needs : (i : ℕ) (w : Write) → i < length (rows_of (view r)) → w4 (view r) (mode_of (view r)) (the_row (view r) i) ≡ w ∷ [] → Needs (view r) w
  unfolding w4
  gone_needs i w h e =
      subst (Needs (view r))
      (when_shape
      ((is_delete (change_in (the_row (view r) i)) || is_direct (view r) (mode_of (view r)) (the_row (view r) i)) && not (is_log_only (change_in (the_row (view r) i))) && not (is_none (entry_of (view r) (name_in (the_row (view r) i))).loose))
      (remove_loose (name_in (the_row (view r) i))) w e) (named.named i h)

  first_needs : (c k : ℕ) (w : Write) → c ≤ 65535 → k < places (view r) → length (view r).lines + lines_in (w ∷ []) ≤ 1024
      → first_at (by c) (view r) k ≡ w ∷ [] → Needs (view r) w
  first_needs c k w hc hk room =
      first_by_lem (by c) (view r) k (λ us. us ≡ w ∷ [] → Needs (view r) w) hk
      (λ h. line_needs c k w hc h room) (λ j h q. log_needs j w) (λ q. packed_needs w) (λ j h q. gone_needs j w h)

  second_needs : (k : ℕ) (w : Write) → second_at (view r) k ≡ w ∷ [] → Needs (view r) w
  unfolding second_at
  second_needs k w e = go (ltb k (length (rows_of (view r)))) refl e
    where
      go : (b : Bool) → ltb k (length (rows_of (view r))) ≡ b → cond b (loose_of (view r) (mode_of (view r)) (the_row (view r) k)) [] ≡ w ∷ [] → Needs (view r) w
      go true p f = loose_needs k w (ltb-true k (length (rows_of (view r))) p) f
      go false p f = no_write w f

  -- what turn asks for, of the values that next_first and next_second give
  pub may_first : (c k : ℕ) (x : Option NextWrite) → c ≤ 65535 → k < places (view r) → length (view r).lines + lines_in (first_at (by c) (view r) k) ≤ 1024
      → write_list (view r) x ≡ first_at (by c) (view r) k → Makes (view r) x
  may_first c k None hc hk room e = nothing_makes (view r)
  may_first c k (Some n) hc hk room e =
      let sh = shape (view r) n in
      needs_makes (view r) (Some n) sh.0 sh.1 (first_needs c k sh.0 hc hk (subst (λ (ws : List Write). length (view r).lines + lines_in ws ≤ 1024) (sym e ∙ sh.1) room) (sym e ∙ sh.1))

  pub may_second : (k : ℕ) (x : Option NextWrite) → write_list (view r) x ≡ second_at (view r) k → Makes (view r) x
  may_second k None e = nothing_makes (view r)
  may_second k (Some n) e = let sh = shape (view r) n in needs_makes (view r) (Some n) sh.0 sh.1 (second_needs k sh.0 (sym e ∙ sh.1))
