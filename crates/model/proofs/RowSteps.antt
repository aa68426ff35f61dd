-- What the writes of one row do to the entry of its own name, phase by phase, and that they leave every other entry. Assumes nothing.
use Rattle.std.specs.Prelude.{Option, Some, None}
use Rattle.target.specs.declared.Target.{Target}
use Rattle.target.specs.declared.ObjectNumber.{ObjectNumber}
use mathlib.Core.Path.{◌≡◌, refl}
use mathlib.Core.Bool.{Bool, true, false, ◌&&◌, ◌||◌, not, cond}
use mathlib.Core.List.{List, [], ◌∷◌, ◌++◌, map}
use Prim.Native.Nat.{ℕ}
use lib.Dec.{eqb}
use borrow.Author.Tests.{eq-eqb, ne_eqb}
use Rattle.target.specs.declared.NameNumber.{NameNumber}
use Rattle.target.specs.declared.Target.TheVariants.{Object, Symbolic}
use Rattle.target.specs.Target.{same_option}
use Rattle.transaction.specs.declared.Change.{Change}
use Rattle.transaction.specs.declared.Change.TheVariants.{Update, Delete}
use Rattle.transaction.specs.declared.PackedRefs.{PackedRefs}
use Rattle.transaction.specs.declared.Edit.{Edit}
use Rattle.transaction.specs.Change.{new_value, is_log_only, is_delete, existing_in}
use Rattle.transaction.specs.Fields.{packed_refs_number}
use Rattle.model.specs.declared.Loose.{Loose}
use Rattle.model.specs.declared.Loose.TheVariants as loose
use Rattle.model.specs.declared.Line.{Line}
use Rattle.model.specs.Basic.{when}
use Rattle.model.specs.Names.{packable}
use Rattle.model.specs.Store.{Store, Entry, entry_of, name_of, is_none, is_packed, put_loose, put_packed}
use Rattle.target.specs.Target.{is_object, is_symbolic}
use Rattle.model.specs.Rows.{name_in, change_in, counts, packs_updates, is_direct, keeps_lock}
use Rattle.model.specs.Due.{Stamp, has_lines, due_line}
use Rattle.model.specs.Writes.{loose_write, writes_loose, packed_set, packed_edit, w1, w2, w4}
use Rattle.model.specs.Writes.Write.{append_line, write_loose, remove_log, remove_loose}
use Rattle.model.proofs.Switch.{Quiet, Step, quiet_none, quiet_cons, quiet_append, quiet_step, quiet_when, quiet_cond, one_step, step_when, step_after, step_before_lem}
use Rattle.model.proofs.Touch.{touch, touch_packed}

-- ---- what a row says, where its name is packable or not

-- it is direct, and keeps its lock
abbrev pub direct_if : PackedRefs → Bool → Change → Bool
direct_if mode p c = eqb (packed_refs_number mode) 3 && is_object (new_value c) && p

abbrev pub keeps_if : PackedRefs → Bool → Change → Bool
keeps_if mode p c =
    is_delete c || direct_if mode p c || is_symbolic (new_value c) || not (same_option (new_value c) (existing_in c))

-- its name is packable
abbrev pub packs : Store → Edit → Bool
packs s r = packable (name_of s (name_in r))

-- whether W1 writes its loose value, and W4 removes the loose value l
abbrev pub sets_if : PackedRefs → Bool → Change → Bool
sets_if mode p c = keeps_if mode p c && not (is_log_only c) && not (direct_if mode p c)

abbrev pub goes_if : PackedRefs → Bool → Change → Loose → Bool
goes_if mode p c l = (is_delete c || direct_if mode p c) && not (is_log_only c) && not (is_none l)

-- ---- what its writes do to its entry

abbrev pub set_loose : Option Target → Entry → Entry
set_loose None e = e
set_loose (Some t) e = put_loose (loose.Target t) e

abbrev pub set_packed : Option Target → Entry → Entry
set_packed None e = e
set_packed (Some (Object o)) e = put_packed (Some o) e
set_packed (Some (Symbolic m)) e = e

-- W1
abbrev pub loose_set : PackedRefs → Bool → Change → Entry → Entry
loose_set mode p c e = cond (sets_if mode p c) (set_loose (new_value c) e) e

-- W3, where k is the packed value from before
abbrev pub packed_moved : PackedRefs → Bool → Change → Option ObjectNumber → Entry → Entry
packed_moved mode p c k e =
    cond (not (is_log_only c) && p)
    (cond (is_delete c && is_packed k) (put_packed None e) (cond (packs_updates mode) (set_packed (new_value c) e) e))
    e

-- W4, where l is the loose value from before
abbrev pub loose_gone : PackedRefs → Bool → Change → Loose → Entry → Entry
loose_gone mode p c l e = cond (goes_if mode p c l) (put_loose loose.None e) e

-- ---- the row of another name

quiet_lines : (n : ℕ) (ls : List Line) → Quiet (touch n) (map append_line ls)
quiet_lines n [] = quiet_none
quiet_lines n (l ∷ ls) = quiet_cons (λ e. refl) (quiet_lines n ls)

module _ (n : ℕ) (k : NameNumber) (other : k.0 ≡ n → ⊥) where
  other_loose : (v : Option Target) → Quiet (touch n) (loose_write k v)
  other_loose None = quiet_none
  other_loose (Some t) = quiet_cons (λ e. rw (ne_eqb k.0 n other)) quiet_none

  other_set : (v : Option Target) → Quiet (touch_packed n) (packed_set k v)
  other_set None = quiet_none
  other_set (Some (Object o)) = quiet_cons (λ e. rw (ne_eqb k.0 n other)) quiet_none
  other_set (Some (Symbolic m)) = quiet_none

module _ (n : ℕ) (r : Edit) (other : (name_in r).0 ≡ n → ⊥) (s : Store) (mode : PackedRefs) where
  pub other_w1 : (stamp : Stamp) → Quiet (touch n) (w1 stamp s mode r)
  unfolding w1
  other_w1 stamp =
      quiet_append (quiet_lines n (due_line stamp s r))
      (quiet_cond (writes_loose s mode r) (other_loose n (name_in r) other (new_value (change_in r))))

  pub other_w4 : Quiet (touch n) (w4 s mode r)
  unfolding w4 is_direct
  other_w4 =
      quiet_when (goes_if mode (packs s r) (change_in r) (entry_of s (name_in r)).loose) (remove_loose (name_in r))
      (λ e. rw (ne_eqb (name_in r).0 n other))

  pub other_packed : Quiet (touch_packed n) (packed_edit s mode r)
  unfolding packed_edit
  other_packed =
      quiet_cond (counts s r)
      (quiet_append (quiet_cond (packs_updates mode) (other_set n (name_in r) other (new_value (change_in r))))
      (quiet_when (is_delete (change_in r) && is_packed (entry_of s (name_in r)).packed) (record { name = name_in r; value = None })
      (λ e. rw (ne_eqb (name_in r).0 n other))))

pub quiet_w2 : (n : ℕ) (r : Edit) (s : Store) → Quiet (touch n) (w2 s r)
unfolding w2
quiet_w2 n r s = quiet_when (is_delete (change_in r) && has_lines s (name_in r)) (remove_log (name_in r)) (λ e. refl)

-- ---- the row of the name

module _ (k : NameNumber) where
  own : eqb k.0 k.0 ≡ true
  own = eq-eqb k.0 k.0 refl

  own_loose : (b : Bool) (v : Option Target) (e : Entry) → Step (touch k.0) (cond b (loose_write k v) []) e (cond b (set_loose v e) e)
  own_loose true None e = quiet_step quiet_none e
  own_loose true (Some t) e = rw own at (one_step {t = touch k.0} (write_loose k t) e)
  own_loose false v e = quiet_step quiet_none e

  own_set : (u : Bool) (v : Option Target) (e : Entry) → Step (touch_packed k.0) (cond u (packed_set k v) []) e (cond u (set_packed v e) e)
  own_set true None e = quiet_step quiet_none e
  own_set true (Some (Object o)) e = rw own at (one_step {t = touch_packed k.0} (record { name = k; value = Some o }) e)
  own_set true (Some (Symbolic m)) e = quiet_step quiet_none e
  own_set false v e = quiet_step quiet_none e

  own_edit : (b : Bool) (e : Entry)
      → Step (touch_packed k.0) (when b (record { name = k; value = None })) e (cond b (put_packed None e) e)
  own_edit b e = rw own at (step_when {t = touch_packed k.0} b (record { name = k; value = None }) e)

  -- a deletion has no new value, so one of the two edits at most is there
  own_edits : (c : Change) (b u : Bool) (x : Option ObjectNumber) (e : Entry)
      → Step (touch_packed k.0)
      (cond b (cond u (packed_set k (new_value c)) [] ++ when (is_delete c && is_packed x) (record { name = k; value = None })) []) e
      (cond b (cond (is_delete c && is_packed x) (put_packed None e) (cond u (set_packed (new_value c) e) e)) e)
  own_edits (Update log expected new) true u x e = step_before_lem (own_set u (Some new) e) quiet_none
  own_edits (Delete expected log) true true x e = own_edit (is_packed x) e
  own_edits (Delete expected log) true false x e = own_edit (is_packed x) e
  own_edits c false u x e = quiet_step quiet_none e

module _ (r : Edit) (s : Store) (mode : PackedRefs) where
  pub own_w1 : (stamp : Stamp) (e : Entry) → Step (touch (name_in r).0) (w1 stamp s mode r) e (loose_set mode (packs s r) (change_in r) e)
  unfolding w1 is_direct keeps_lock
  own_w1 stamp e =
      step_after (quiet_lines (name_in r).0 (due_line stamp s r)) (own_loose (name_in r) (writes_loose s mode r) (new_value (change_in r)) e)

  pub own_packed : (e : Entry)
      → Step (touch_packed (name_in r).0) (packed_edit s mode r) e (packed_moved mode (packs s r) (change_in r) (entry_of s (name_in r)).packed e)
  unfolding packed_edit counts
  own_packed e = own_edits (name_in r) (change_in r) (counts s r) (packs_updates mode) (entry_of s (name_in r)).packed e

  pub own_w4 : (e : Entry)
      → Step (touch (name_in r).0) (w4 s mode r) e (loose_gone mode (packs s r) (change_in r) (entry_of s (name_in r)).loose e)
  unfolding w4 is_direct
  own_w4 e =
      rw (own (name_in r))
      at (step_when {t = touch (name_in r).0} (goes_if mode (packs s r) (change_in r) (entry_of s (name_in r)).loose) (remove_loose (name_in r)) e)
