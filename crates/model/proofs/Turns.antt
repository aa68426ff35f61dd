-- What the turns of R3 and R5 leave: rows alike, fine, and with the existing value of each name in its row. Assumes nothing.
use Rattle.std.specs.Prelude.{Option, Some, None, Result, Ok, Err}
use Rattle.target.specs.declared.Target.{Target}
use mathlib.Core.Path.{◌≡◌, refl, sym, ap, subst, ◌∙◌}
use mathlib.Core.Bool.{Bool, true, false, ◌&&◌, not, cond}
use mathlib.Core.List.{List, [], ◌∷◌, map}
use Prim.Native.Nat.{ℕ, zero, suc, ◌+◌, ◌<◌, ◌^◌}
use native.Mathlib.Omega.{arith}
use lib.ListN.{length, get_or, set, get_or-map}
use lib.Seq.{map-set_same, get_or-set_same, get_or-set_other}
use lib.Dec.{ltb, eqb}
use borrow.Author.Tests.{eqb-true, eqb-false}
use Rattle.target.specs.declared.NameNumber.{NameNumber}
use Rattle.target.specs.declared.ObjectNumber.{ObjectNumber}
use Rattle.target.specs.declared.Target.TheVariants.{Object, Symbolic}
use Rattle.transaction.specs.declared.PreviousValue.TheVariants.{Any, MustExist, MustNotExist, MustExistAndMatch, ExistingMustMatch}
use Rattle.transaction.specs.declared.Change.{Change}
use Rattle.transaction.specs.declared.Change.TheVariants.{Update, Delete}
use Rattle.transaction.specs.declared.RefEdit.{RefEdit}
use Rattle.transaction.specs.declared.PackedRefs.{PackedRefs}
use Rattle.transaction.specs.declared.Edit.{Edit}
use Rattle.transaction.specs.Change.{previous_value, previous_oid, id_of, existing_in, is_delete, is_log_only}
use Rattle.model.specs.declared.Refusal.{Refusal}
use Rattle.model.specs.Store.{Store, no_row, count, entry_of, name_of}
use Rattle.model.specs.Read.{value_of}
use Rattle.model.specs.Rows.{name_in, change_in, row_at, ancestors, direct, keeps, is_direct}
use Rattle.model.specs.Beneath.{would_write, conflicts}
use Rattle.model.specs.Outcome.{◌>>◌}
use Rattle.model.specs.Judge.{judge}
use Rattle.model.specs.Fine.{fine_option, Fine}
use Rattle.model.specs.Prepare.{existing, conflict_test, lock_test, first_refusal, observing, observed, with_leaf, handed_to, handed_on, turned, turn, turns_from}
use Rattle.model.proofs.Rules.{both_true}
use Rattle.model.proofs.RowsFine.{RowsFine}
use Rattle.model.proofs.Beneath.{ClearAt, Clear, conflicts_not, would_update, clear_at_rows}
use Rattle.model.proofs.Alike.{unexpecting, plain, Alike, alike_length}
use Rattle.model.proofs.Valued.{Valued, AllValued, existing_fine, rows_valued, alike_fine}

-- ---- observing an existing value

unexpecting_observing : (c : Change) (x : Option Target) → unexpecting (observing c x) ≡ unexpecting c
unexpecting_observing c None = refl
unexpecting_observing (Update log expected new) (Some t) = refl
unexpecting_observing (Delete expected log) (Some t) = refl

observing_fine :
    (n : ℕ) (c : Change) (x : Option Target)
    → fine_option n (previous_value c) ≡ true → fine_option n x ≡ true → fine_option n (previous_value (observing c x)) ≡ true
observing_fine n c None p q = p
observing_fine n (Update log expected new) (Some t) p q = q
observing_fine n (Delete expected log) (Some t) p q = q

unrefused : {q : Refusal} → Some q ≡ None → ⊥
unrefused h = let z : ◌≡◌ {A = ℕ} 0 1 = cc in omega arith

-- in a row that passes its test, the existing value is the one observed
observing_agrees : (n : NameNumber) (c : Change) (x : Option Target) → judge n c x ≡ None → existing_in (observing c x) ≡ x
observing_agrees n (Update log Any new) None h = refl
observing_agrees n (Update log MustExist new) None h = refl
observing_agrees n (Update log MustNotExist new) None h = refl
observing_agrees n (Update log (MustExistAndMatch t) new) None h = absurd (unrefused h)
observing_agrees n (Update log (ExistingMustMatch t) new) None h = refl
observing_agrees n (Update log expected new) (Some t) h = refl
observing_agrees n (Delete Any log) None h = refl
observing_agrees n (Delete MustExist log) None h = refl
observing_agrees n (Delete MustNotExist log) None h = refl
observing_agrees n (Delete (MustExistAndMatch t) log) None h = absurd (unrefused h)
observing_agrees n (Delete (ExistingMustMatch t) log) None h = refl
observing_agrees n (Delete expected log) (Some t) h = refl

-- ---- handing a leaf-previous on

-- whatever of a row does not look at it stays
module _ {A : Type 0} (f : Edit → A) (h : (o : ObjectNumber) (r : Edit) → f (with_leaf o r) ≡ f r) where
  handed_to_map : (ps : List ℕ) (o : ObjectNumber) (rows : List Edit) → map f (handed_to ps o rows) ≡ map f rows
  handed_to_map [] o rows = refl
  handed_to_map (p ∷ ps) o rows =
      handed_to_map ps o (set rows p (with_leaf o (row_at rows p)))
      ∙ map-set_same f rows p (with_leaf o (row_at rows p)) no_row (h o (row_at rows p))

  handed_on_map : (x : Option ObjectNumber) (ps : List ℕ) (rows : List Edit) → map f (handed_on x ps rows) ≡ map f rows
  handed_on_map None ps rows = refl
  handed_on_map (Some o) ps rows = handed_to_map ps o rows

-- the object of a fine target fits 64 bits
abbrev fitting : Option ObjectNumber → Type 0
fitting None = Unit {0}
fitting (Some o) = ltb o.0 (2 ^ 64) ≡ true

fine_fits : (n : ℕ) (x : Option Target) → fine_option n x ≡ true → fitting (id_of x)
fine_fits n None h = tt
fine_fits n (Some (Object o)) h = (both_true (ltb 0 o.0) _ h).1
fine_fits n (Some (Symbolic m)) h = tt

module _ (n : ℕ) where
  set_valued : (rows : List Edit) (i : ℕ) (r : Edit) → Valued n r → AllValued n rows → AllValued n (set rows i r)
  set_valued [] i r p h j = h j
  set_valued (x ∷ rows) zero r p h zero = p
  set_valued (x ∷ rows) zero r p h (suc j) = h (suc j)
  set_valued (x ∷ rows) (suc i) r p h zero = h zero
  set_valued (x ∷ rows) (suc i) r p h (suc j) = set_valued rows i r p (λ k. h (suc k)) j

  handed_to_valued :
      (ps : List ℕ) (o : ObjectNumber) (rows : List Edit) → ltb o.0 (2 ^ 64) ≡ true → AllValued n rows
      → AllValued n (handed_to ps o rows)
  handed_to_valued [] o rows f v = v
  handed_to_valued (p ∷ ps) o rows f v =
      handed_to_valued ps o (set rows p (with_leaf o (row_at rows p))) f
      (set_valued rows p (with_leaf o (row_at rows p)) (record { previous = (v p).previous; leaf = f }) v)

  handed_on_valued :
      (x : Option ObjectNumber) (ps : List ℕ) (rows : List Edit) → fitting x → AllValued n rows → AllValued n (handed_on x ps rows)
  handed_on_valued None ps rows f v = v
  handed_on_valued (Some o) ps rows f v = handed_to_valued ps o rows f v

-- ---- one turn

-- a row with its name's existing value
abbrev pub Agreed : Store → Bool → Edit → Type 0
Agreed s opened r = existing_in (change_in r) ≡ existing s opened r

agreed_update : (s : Store) (opened : Bool) (a b : Edit) → a.update ≡ b.update → Agreed s opened b → Agreed s opened a
agreed_update s opened a b u = subst (λ (x : RefEdit). existing_in x.change ≡ value_of opened (entry_of s x.name)) (sym u)

module _ (s : Store) (opened : Bool) (rows : List Edit) (i : ℕ) where
  -- the value there at its turn, and the row with it
  abbrev there : Option Target
  there = existing s opened (row_at rows i)

  abbrev seen : Edit
  seen = observed (row_at rows i) there

  turned_map :
      {A : Type 0} (f : Edit → A) → ((o : ObjectNumber) (r : Edit) → f (with_leaf o r) ≡ f r)
      → map f (turned s opened rows i) ≡ map f (set rows i seen)
  unfolding turned
  turned_map f h = handed_on_map f h (previous_oid (change_in seen)) (ancestors rows i) (set rows i seen)

  turned_alike : Alike (turned s opened rows i) rows
  turned_alike =
      turned_map plain (λ o r. refl)
      ∙ map-set_same plain rows i seen no_row (rw (unexpecting_observing (change_in (row_at rows i)) there))

  turned_valued : Fine s → AllValued (count s) rows → AllValued (count s) (turned s opened rows i)
  unfolding turned
  turned_valued f v =
      handed_on_valued (count s) (previous_oid (change_in seen)) (ancestors rows i) (set rows i seen)
      (fine_fits (count s) (previous_value (change_in seen)) fine)
      (set_valued (count s) rows i seen (record { previous = fine; leaf = (v i).leaf }) v)
    where
      fine : fine_option (count s) (previous_value (change_in seen)) ≡ true
      fine = observing_fine (count s) (change_in (row_at rows i)) there (v i).previous (existing_fine s f opened (row_at rows i))

  -- the edit in each row: in its own the existing value is seen, in others it stays
  turned_update : (j : ℕ) → (row_at (turned s opened rows i) j).update ≡ (row_at (set rows i seen) j).update
  turned_update j =
      sym (get_or-map (λ (r : Edit). r.update) (turned s opened rows i) j no_row)
      ∙ ap (λ (l : List RefEdit). get_or l j no_row.update) (turned_map (λ (r : Edit). r.update) (λ o r. refl))
      ∙ get_or-map (λ (r : Edit). r.update) (set rows i seen) j no_row

  turned_here :
      i < length rows → judge (name_in (row_at rows i)) (change_in (row_at rows i)) there ≡ None
      → Agreed s opened (row_at (turned s opened rows i) i)
  turned_here h e =
      agreed_update s opened (row_at (turned s opened rows i) i) seen
      (turned_update i ∙ ap (λ (r : Edit). r.update) (get_or-set_same rows i seen no_row h))
      (observing_agrees (name_in (row_at rows i)) (change_in (row_at rows i)) there e)

  turned_other : (j : ℕ) → (j ≡ i → ⊥) → Agreed s opened (row_at rows j) → Agreed s opened (row_at (turned s opened rows i) j)
  turned_other j d =
      agreed_update s opened (row_at (turned s opened rows i) j) (row_at rows j)
      (turned_update j ∙ ap (λ (r : Edit). r.update) (get_or-set_other rows i j seen no_row d))

-- three tests and what follows: they passed, and it followed
passed : {A : Type 0} (a b c : Option Refusal) (x y : A) → (first_refusal (a ∷ b ∷ c ∷ []) >> Ok x) ≡ Ok y
    → (a ≡ None) × ((c ≡ None) × (x ≡ y))
passed None None None x y h = (refl, (refl, cc))
passed None None (Some q) x y h = absurd (let z : ◌≡◌ {A = ℕ} 0 1 = cc in omega arith)
passed None (Some p) c x y h = absurd (let z : ◌≡◌ {A = ℕ} 0 1 = cc in omega arith)
passed (Some p) b c x y h = absurd (let z : ◌≡◌ {A = ℕ} 0 1 = cc in omega arith)

-- a test that refuses nothing
untested : (t : Bool) (q : Refusal) → cond t (Some q) None ≡ None → t ≡ false
untested true q h = absurd (unrefused h)
untested false q h = refl

-- what a row would write is asked the same once its existing value is observed
would_observed : (s : Store) (mode : PackedRefs) (r : Edit) (y x : Option Target) → would_write s mode (observed r y) x ≡ would_write s mode r x
unfolding would_write is_direct
would_observed s mode r y x = go (change_in r) y
  where
    go : (c : Change) (y : Option Target)
        → (not (is_delete (observing c y)) && not (is_log_only (observing c y)) && not (direct mode (name_of s (name_in r)) (observing c y)) && keeps mode (name_of s (name_in r)) (observing c y) x)
        ≡ (not (is_delete c) && not (is_log_only c) && not (direct mode (name_of s (name_in r)) c) && keeps mode (name_of s (name_in r)) c x)
    go c None = refl
    go (Update log expected new) (Some t) = refl
    go (Delete expected log) (Some t) = refl

-- ---- all turns

-- what holds before the turn at place i
record Turning (s : Store) (mode : PackedRefs) (opened : Bool) (split : List Edit) (i : ℕ) (rows : List Edit) : Type 0 where
  alike : Alike rows split
  valued : AllValued (count s) rows
  agreed : (j : ℕ) → j < i → Agreed s opened (row_at rows j)
  clear : (j : ℕ) → j < i → ClearAt s mode rows j (existing_in (change_in (row_at rows j)))

module _ (s : Store) (f : Fine s) (mode : PackedRefs) (opened : Bool) (split : List Edit) where
  abbrev Before : ℕ → List Edit → Type 0
  Before i rows = Turning s mode opened split i rows

  one_turn :
      (i : ℕ) (rows next : List Edit) → i < length split → Before i rows → turn s mode opened rows i ≡ Ok next → Before (i + 1) next
  unfolding turn
  one_turn i rows next h t e = subst (Before (i + 1)) went.1.1 (record {
    alike = turned_alike s opened rows i ∙ t.alike;
    valued = turned_valued s opened rows i f t.valued;
    agreed = λ j k. agree j k (eqb j i) refl;
    clear = λ j k. unrefused_at j k (eqb j i) refl;
  })
    where
      went :
          (conflict_test s mode opened rows i ≡ None)
          × ((judge (name_in (row_at rows i)) (change_in (row_at rows i)) (there s opened rows i) ≡ None)
          × (turned s opened rows i ≡ next))
      went = passed (conflict_test s mode opened rows i) (lock_test s rows i) _ _ _ e

      inside : i < length rows
      inside = rw (alike_length rows split t.alike) h

      here : Agreed s opened (row_at (turned s opened rows i) i)
      here = turned_here s opened rows i inside went.1.0

      agree : (j : ℕ) → j < i + 1 → (q : Bool) → eqb j i ≡ q → Agreed s opened (row_at (turned s opened rows i) j)
      agree j k true q = rw (eqb-true j i q) here
      agree j k false q =
          let d : j ≡ i → ⊥ = eqb-false j i q in
          turned_other s opened rows i j d (t.agreed j (omega arith))

      -- the row of this turn, with the value observed in it
      judged : ClearAt s mode rows i (there s opened rows i)
      judged = conflicts_not s mode rows i (there s opened rows i) (untested (conflicts s mode rows i (there s opened rows i)) _ went.0)

      update_here : (row_at (turned s opened rows i) i).update ≡ (seen s opened rows i).update
      update_here = turned_update s opened rows i i ∙ ap (λ (r : Edit). r.update) (get_or-set_same rows i (seen s opened rows i) no_row inside)

      update_other : (j : ℕ) → (j ≡ i → ⊥) → (row_at (turned s opened rows i) j).update ≡ (row_at rows j).update
      update_other j d = turned_update s opened rows i j ∙ ap (λ (r : Edit). r.update) (get_or-set_other rows i j (seen s opened rows i) no_row d)

      clear_here : ClearAt s mode (turned s opened rows i) i (existing_in (change_in (row_at (turned s opened rows i) i)))
      clear_here =
          clear_at_rows s mode rows (turned s opened rows i) i (there s opened rows i) _
          (λ j k. update_other j (λ e. omega arith))
          (ap (λ (u : RefEdit). u.name) update_here)
          (would_update s mode (row_at (turned s opened rows i) i) (seen s opened rows i) _ update_here
          ∙ ap (would_write s mode (seen s opened rows i)) (here ∙ same_existing)
          ∙ would_observed s mode (row_at rows i) (there s opened rows i) (there s opened rows i))
          judged
        where
          same_existing : existing s opened (row_at (turned s opened rows i) i) ≡ there s opened rows i
          same_existing = ap (λ (u : RefEdit). value_of opened (entry_of s u.name)) update_here

      clear_other : (j : ℕ) → j < i → ClearAt s mode (turned s opened rows i) j (existing_in (change_in (row_at (turned s opened rows i) j)))
      clear_other j k =
          let e : (row_at (turned s opened rows i) j).update ≡ (row_at rows j).update = update_other j (λ e. omega arith) in
          clear_at_rows s mode rows (turned s opened rows i) j _ _
          (λ l m. update_other l (λ e. omega arith))
          (ap (λ (u : RefEdit). u.name) e)
          (would_update s mode (row_at (turned s opened rows i) j) (row_at rows j) _ e
          ∙ ap (λ (u : RefEdit). would_write s mode (row_at rows j) (existing_in u.change)) e)
          (t.clear j k)

      unrefused_at : (j : ℕ) → j < i + 1 → (q : Bool) → eqb j i ≡ q
          → ClearAt s mode (turned s opened rows i) j (existing_in (change_in (row_at (turned s opened rows i) j)))
      unrefused_at j k true q = rw (eqb-true j i q) clear_here
      unrefused_at j k false q = let d : j ≡ i → ⊥ = eqb-false j i q in clear_other j (omega arith)

  all_turns :
      (k i : ℕ) (rows last : List Edit) → i + k ≡ length split → Before i rows → turns_from s mode opened k i rows ≡ Ok last
      → Before (length split) last
  unfolding turns_from
  all_turns zero i rows last h t e =
      let p : rows ≡ last = cc in
      let q : i ≡ length split = omega arith in
      rw (← p, ← q) t
  all_turns (suc k) i rows last h t e = go (turn s mode opened rows i) refl (λ next. all_turns k (i + 1) next last)
    where
      Rest : List Edit → Type 0
      Rest next =
          i + 1 + k ≡ length split → Before (i + 1) next → turns_from s mode opened k (i + 1) next ≡ Ok last
          → Before (length split) last

      go : (o : Result (List Edit) Refusal) → turn s mode opened rows i ≡ o → ((next : List Edit) → Rest next) → Before (length split) last
      go (Err q) p rest =
          let w : Err q ≡ Ok last = rw p at e in
          absurd (let z : ◌≡◌ {A = ℕ} 0 1 = cc in omega arith)
      go (Ok next) p rest = rest next (omega arith) (one_turn i rows next (omega arith) t p) (rw p at e)

-- the rows that the turns leave
pub record Turned (s : Store) (mode : PackedRefs) (opened : Bool) (split rows : List Edit) : Type 0 where
  pub alike : Alike rows split
  pub fine : RowsFine (count s) rows
  pub agreed : (i : ℕ) → i < length rows → Agreed s opened (row_at rows i)
  pub clear : Clear s mode rows

pub turns_fine :
    (s : Store) → Fine s → (mode : PackedRefs) (opened : Bool) (split rows : List Edit) → RowsFine (count s) split
    → turns_from s mode opened (length split) 0 split ≡ Ok rows → Turned s mode opened split rows
turns_fine s f mode opened split rows g e = record {
  alike = t.alike;
  fine = alike_fine (count s) rows split t.alike t.valued g;
  agreed = λ i h. t.agreed i (rw (alike_length rows split t.alike) at h);
  clear = record { clear = λ i h. t.clear i (rw (alike_length rows split t.alike) at h) };
}
  where
    t : Turning s mode opened split (length split) rows
    t =
        all_turns s f mode opened split (length split) 0 split rows (omega arith)
        (record { alike = refl; valued = rows_valued (count s) split g; agreed = λ j h. absurd (omega arith); clear = λ j h. absurd (omega arith) })
        e
