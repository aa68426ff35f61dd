-- A row's turn as the definitions have it: the topmost ancestor, the tests, and the turns one by one up to the first refusal. Assumes nothing.
use Rattle.std.specs.Prelude.{Option, Some, None, Result, Ok, Err}
use Rattle.target.specs.declared.Target.{Target}
use mathlib.Core.Path.{◌≡◌, refl, sym, ap, ◌∙◌}
use mathlib.Core.Bool.{Bool, true, false}
use mathlib.Core.List.{List, [], ◌∷◌}
use Prim.Native.Nat.{ℕ, suc, ◌+◌, ◌-◌, ◌<◌, ◌≤◌}
use native.Mathlib.Omega.{arith}
use lib.ListN.{length}
use Rattle.target.specs.declared.NameNumber.{NameNumber}
use Rattle.transaction.specs.declared.PackedRefs.{PackedRefs}
use Rattle.transaction.specs.declared.Edit.{Edit}
use Rattle.model.specs.declared.Lock.TheVariants.{Foreign}
use Rattle.model.specs.declared.Refusal.{Refusal}
use Rattle.model.specs.declared.Refusal.TheVariants.{LockAcquire, NameConflict}
use Rattle.model.specs.Basic.{last_or}
use Rattle.model.specs.Store.{Store, entry_of, rows_in, is_lock, with_prepared, with_rows}
use Rattle.model.specs.Rows.{name_in, change_in, row_at, topmost}
use Rattle.model.specs.Beneath.{conflicts}
use Rattle.model.specs.Outcome.{◌>>=◌, ◌>>◌}
use Rattle.model.specs.Judge.{judge}
use Rattle.model.specs.Fine.{Upward}
use Rattle.model.specs.Prepare.{existing, turn_tests, first_refusal, turned, turn, turns_from}
use Rattle.model.proofs.Alike.{Alike, alike_length}
use Rattle.model.proofs.Climbs.{parent_at, ancestors_none, falls, ancestors_up}
use Rattle.region.specs.Region.{view, Laid, Became}
use Rattle.writers.specs.Taken.{Taken, outcome_by}
use Rattle.turns.specs.Judged.{judged_option}
use Rattle.turns.proofs.Climb.{upward_alike}
use Rattle.writers.proofs.OtherRows.{as_as, own_rows}
use Rattle.turns.proofs.Turned.{rows_seen}
use Rattle.turns.proofs.Same.{same_turn, turn_alike}

-- ---- the topmost ancestor

module _ (rows : List Edit) (i : ℕ) (x : Edit) (ex : x ≡ row_at rows i) where
  parent_here : (p : Option ℕ) → x.parent_index ≡ p → parent_at rows i ≡ p
  parent_here p e = ap (λ (r : Edit). r.parent_index) (sym ex) ∙ e

  pub top_none : x.parent_index ≡ None → x.update.name ≡ topmost rows i
  unfolding topmost
  top_none e =
      ap name_in ex ∙ ap (λ (ps : List ℕ). name_in (row_at rows (last_or i ps))) (sym (ancestors_none rows i (parent_here None e)))

  module _ (w : Upward (length rows) rows) (h : i < length rows) (p : ℕ) (e : x.parent_index ≡ Some p) where
    pub top_falls : p < i
    top_falls = falls rows i (length rows) w h p (parent_here (Some p) e)

    pub top_up : (n : NameNumber) → n ≡ topmost rows p → n ≡ topmost rows i
    unfolding topmost
    top_up n f =
        f
        ∙ ap (λ (ps : List ℕ). name_in (row_at rows (last_or i ps))) (sym (ancestors_up rows i (length rows) w h p (parent_here (Some p) e)))

-- ---- the tests

-- x is the row at place i, v its existing value, a whether 25 refuses it, b whether its name's lock is foreign
module _ (s : Store) (mode : PackedRefs) (opened : Bool) (rows : List Edit) (i : ℕ) (x : Edit) (ex : x ≡ row_at rows i)
    (v : Option Target) (ev : v ≡ existing s opened x) (a : Bool) (ea : a ≡ conflicts s mode rows i v) where
  existing_here : existing s opened (row_at rows i) ≡ v
  existing_here = ap (existing s opened) (sym ex) ∙ sym ev

  conflict_here : (t : Bool) → a ≡ t → conflicts s mode rows i (existing s opened (row_at rows i)) ≡ t
  conflict_here t e = ap (conflicts s mode rows i) existing_here ∙ sym ea ∙ e

  pub turn_nested : a ≡ true → Err (NameConflict x.update.name) ≡ first_refusal (turn_tests s mode opened rows i)
  turn_nested t = rw (conflict_here true t) (ap (λ (r : Edit). Err (NameConflict (name_in r))) ex)

  module _ (u : a ≡ false) (b : Bool) (eb : b ≡ is_lock Foreign (entry_of s x.update.name).lock) where
    held_here : (t : Bool) → b ≡ t → is_lock Foreign (entry_of s (name_in (row_at rows i))).lock ≡ t
    held_here t e = ap (λ (r : Edit). is_lock Foreign (entry_of s (name_in r)).lock) (sym ex) ∙ sym eb ∙ e

    pub turn_held : (top : NameNumber) → b ≡ true → top ≡ topmost rows i → Err (LockAcquire top) ≡ first_refusal (turn_tests s mode opened rows i)
    turn_held top t f = rw (conflict_here false u, held_here true t, f)

    pub turn_judged : (j : (Result (Unit {0}) Refusal)) → b ≡ false → judged_option j ≡ judge x.update.name x.update.change v
        → outcome_by j tt ≡ first_refusal (turn_tests s mode opened rows i)
    turn_judged j t g =
        let k : judge (name_in (row_at rows i)) (change_in (row_at rows i)) (existing s opened (row_at rows i)) ≡ judged_option j =
        ap (λ (r : Edit). judge (name_in r) (change_in r) (existing s opened r)) (sym ex) ∙ ap (judge (name_in x) (change_in x)) (sym ev) ∙ sym g in
        rw (conflict_here false u, held_here false t, k) (last j)
      where
        last : (j : (Result (Unit {0}) Refusal)) → outcome_by j tt ≡ first_refusal (judged_option j ∷ [])
        last (Ok tt) = refl
        last (Err r) = refl

-- ---- one turn

module _ (r : List ℕ) (mode : PackedRefs) (opened : Bool) (i : ℕ) (j : (Result (Unit {0}) Refusal))
    (h : outcome_by j tt ≡ first_refusal (turn_tests (view r) mode opened (rows_in (view r).prepared) i)) where
  -- the tests say what j says
  tests : (k : (Result (Unit {0}) Refusal)) → j ≡ k → (m : List Edit)
      → (outcome_by k (tt {0}) >> Ok m) ≡ (first_refusal (turn_tests (view r) mode opened (rows_in (view r).prepared) i) >> Ok m)
  tests k e m = ap (λ (o : Result (Unit {0}) Refusal). o >> Ok m) (ap (λ (j : (Result (Unit {0}) Refusal)). outcome_by j tt) (sym e) ∙ h)

  pub turn_refused : (q : Refusal) → Laid r → j ≡ Err q → Taken r r (Err q) (turn (view r) mode opened (rows_in (view r).prepared) i)
  unfolding turn
  turn_refused q l e =
      record {
        laid = l;
        seen = own_rows (view r);
        whole = tests (Err q) e _;
      }

  pub turn_passed : (r' : List ℕ) → i < length (rows_in (view r).prepared) → j ≡ (Ok tt)
      → Became r' (with_rows (view r) (turned (view r) opened (rows_in (view r).prepared) i))
      → Taken r r' (Ok tt) (turn (view r) mode opened (rows_in (view r).prepared) i)
  unfolding turn
  turn_passed r' l e b =
      let n : rows_in (view r').prepared ≡ turned (view r) opened (rows_in (view r).prepared) i = rows_seen r r' i _ l b in
      record { laid = b.laid; seen = b.seen ∙ ap (with_rows (view r)) (sym n); whole = ap Ok n ∙ tests (Ok tt) e _ }

-- ---- the turns

-- i turns of n are taken: what is left of them, on the rows as they are, comes to what all of them come to
pub record Far (r₀ : List ℕ) (mode : PackedRefs) (opened : Bool) (n i : ℕ) (r : List ℕ) : Type 0 where
  pub laid : Laid r
  pub same : length r ≡ length r₀
  pub upto : i ≤ n
  pub many : length (rows_in (view r).prepared) ≡ n
  pub upward : Upward (length (rows_in (view r).prepared)) (rows_in (view r).prepared)
  pub seen : view r ≡ with_rows (view r₀) (rows_in (view r).prepared)
  pub whole : turns_from (view r₀) mode opened (n - i) i (rows_in (view r).prepared)
      ≡ turns_from (view r₀) mode opened (length (rows_in (view r₀).prepared)) 0 (rows_in (view r₀).prepared)

pub far_start : (r : List ℕ) (mode : PackedRefs) (opened : Bool) (n : ℕ) → Laid r → Upward (length (rows_in (view r).prepared)) (rows_in (view r).prepared)
    → n ≡ length (rows_in (view r).prepared) → Far r mode opened n 0 r
far_start r mode opened n l w e =
    let z : n - 0 ≡ length (rows_in (view r).prepared) = omega arith in
    record {
      laid = l;
      same = refl;
      upto = omega arith;
      many = sym e;
      upward = w;
      seen = own_rows (view r);
      whole = ap (λ (k : ℕ). turns_from (view r) mode opened k 0 (rows_in (view r).prepared)) z;
    }

module _ (r₀ r r' : List ℕ) (mode : PackedRefs) (opened : Bool) (n i : ℕ) (f : Far r₀ mode opened n i r) (h : i < n) (j : (Result (Unit {0}) Refusal))
    (t : Taken r r' j (turn (view r) mode opened (rows_in (view r).prepared) i)) where
  both_seen : view r' ≡ with_rows (view r₀) (rows_in (view r').prepared)
  both_seen =
      t.seen
      ∙ ap (λ (s : Store). with_rows s (rows_in (view r').prepared)) f.seen
      ∙ ap (with_prepared (view r₀)) (as_as (rows_in (view r).prepared) (rows_in (view r').prepared) (view r₀).prepared)

  -- what this turn says, and then those behind it
  both_whole : (k : (Result (Unit {0}) Refusal)) → j ≡ k
      → (outcome_by k (rows_in (view r').prepared) >>= λ next. turns_from (view r₀) mode opened (n - (i + 1)) (i + 1) next)
      ≡ turns_from (view r₀) mode opened (length (rows_in (view r₀).prepared)) 0 (rows_in (view r₀).prepared)
  unfolding turns_from
  both_whole k e =
      let m : suc (n - (i + 1)) ≡ n - i = omega arith in
      ap (λ (o : Result (List Edit) Refusal). o >>= λ next. turns_from (view r₀) mode opened (n - (i + 1)) (i + 1) next)
      (ap (λ (j : (Result (Unit {0}) Refusal)). outcome_by j (rows_in (view r').prepared)) (sym e)
      ∙ t.whole
      ∙ ap (λ (s : Store). turn s mode opened (rows_in (view r).prepared) i) f.seen
      ∙ same_turn (view r₀) _ mode opened (rows_in (view r).prepared) i)
      ∙ ap (λ (k : ℕ). turns_from (view r₀) mode opened k i (rows_in (view r).prepared)) m
      ∙ f.whole

  pub far_more : length r' ≡ length r → j ≡ (Ok tt) → Far r₀ mode opened n (i + 1) r'
  far_more el e =
      let a : Alike (rows_in (view r').prepared) (rows_in (view r).prepared) =
      turn_alike (view r) mode opened i _ _ (sym t.whole ∙ ap (λ (j : (Result (Unit {0}) Refusal)). outcome_by j (rows_in (view r').prepared)) e) in
      record {
        laid = t.laid;
        same = el ∙ f.same;
        upto = omega arith;
        many = alike_length (rows_in (view r').prepared) (rows_in (view r).prepared) a ∙ f.many;
        upward = upward_alike (rows_in (view r).prepared) (rows_in (view r').prepared) a f.upward;
        seen = both_seen;
        whole = both_whole (Ok tt) e;
      }

  pub far_stop : (q : Refusal) → j ≡ Err q
      → Taken r₀ r' (Err q) (turns_from (view r₀) mode opened (length (rows_in (view r₀).prepared)) 0 (rows_in (view r₀).prepared))
  far_stop q e =
      record {
        laid = t.laid;
        seen = both_seen;
        whole = both_whole (Err q) e;
      }

pub far_end : (r₀ r : List ℕ) (mode : PackedRefs) (opened : Bool) (n i : ℕ) → Far r₀ mode opened n i r → n ≤ i
    → Taken r₀ r (Ok tt) (turns_from (view r₀) mode opened (length (rows_in (view r₀).prepared)) 0 (rows_in (view r₀).prepared))
unfolding turns_from
far_end r₀ r mode opened n i f h =
    let k : 0 ≡ n - i = omega arith in
    record {
      laid = f.laid;
      seen = f.seen;
      whole = ap (λ (k : ℕ). turns_from (view r₀) mode opened k i (rows_in (view r).prepared)) k ∙ f.whole;
    }
