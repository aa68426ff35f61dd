-- What a turn asks of a store does not depend on the rows in it, and turns that pass leave rows alike. Assumes nothing.
use Rattle.std.specs.Prelude.{Option, Result, Ok, Err}
use Rattle.model.specs.declared.Refusal.{Refusal}
use mathlib.Core.Path.{◌≡◌, refl, sym, ap, ◌∙◌}
use mathlib.Core.Bool.{Bool}
use mathlib.Core.List.{List, map}
use Prim.Native.Nat.{ℕ, zero, suc, ◌+◌}
use lib.ListN.{length}
use Rattle.transaction.specs.declared.PackedRefs.{PackedRefs}
use Rattle.transaction.specs.declared.Edit.{Edit}
use Rattle.model.specs.Store.{Store, Prepared, with_prepared}
use Rattle.model.specs.Rows.{is_direct}
use Rattle.model.specs.Beneath.{loose_above, loose_beneath, would_write, meets_earlier, conflicts}
use Rattle.model.specs.Outcome.{◌>>=◌}
use Rattle.model.specs.Fine.{Upward}
use Rattle.model.specs.Prepare.{lock_test, existing, turn_tests, first_refusal, turned, turn, turns_from}
use Rattle.model.proofs.Binds.{pass_then, pass_is}
use Rattle.model.proofs.Alike.{plain, Alike, alike_length}
use Rattle.turns.proofs.Climb.{upward_alike, turned_alike}

-- ---- of a store with other rows

module _ (s : Store) (q : Option Prepared) where
  pub same_lock : (rows : List Edit) (i : ℕ) → lock_test (with_prepared s q) rows i ≡ lock_test s rows i
  same_lock rows i = refl

  module _ (mode : PackedRefs) (opened : Bool) where
    pub same_existing : (r : Edit) → existing (with_prepared s q) opened r ≡ existing s opened r
    same_existing r = refl

    pub same_turn : (rows : List Edit) (i : ℕ) → turn (with_prepared s q) mode opened rows i ≡ turn s mode opened rows i
    unfolding turn turned conflicts loose_above loose_beneath would_write is_direct meets_earlier
    same_turn rows i = refl

    pub same_turns : (k i : ℕ) (rows : List Edit) → turns_from (with_prepared s q) mode opened k i rows ≡ turns_from s mode opened k i rows
    unfolding turns_from
    same_turns zero i rows = refl
    same_turns (suc k) i rows =
        ap (λ (o : Result (List Edit) Refusal). o >>= λ next. turns_from (with_prepared s q) mode opened k (i + 1) next) (same_turn rows i)
        ∙ go (turn s mode opened rows i) (same_turns k (i + 1))
      where
        go : (o : Result (List Edit) Refusal)
            → ((next : List Edit) → turns_from (with_prepared s q) mode opened k (i + 1) next ≡ turns_from s mode opened k (i + 1) next)
            → (o >>= λ next. turns_from (with_prepared s q) mode opened k (i + 1) next) ≡ (o >>= λ next. turns_from s mode opened k (i + 1) next)
        go (Err r) f = refl
        go (Ok next) f = f next

-- ---- of rows that passed

module _ (s : Store) (mode : PackedRefs) (opened : Bool) where
  pub turn_alike : (i : ℕ) (rows next : List Edit) → turn s mode opened rows i ≡ Ok next → Alike next rows
  unfolding turn
  turn_alike i rows next e =
      pass_then (first_refusal (turn_tests s mode opened rows i)) _ next e λ _ _ h.
      ap (map plain) (sym (pass_is h)) ∙ turned_alike s opened rows i

  pub turns_alike : (k i : ℕ) (rows last : List Edit) → turns_from s mode opened k i rows ≡ Ok last → Alike last rows
  unfolding turns_from
  turns_alike zero i rows last e = ap (map plain) (sym (pass_is e))
  turns_alike (suc k) i rows last e =
      pass_then (turn s mode opened rows i) _ last e λ next p h. turns_alike k (i + 1) next last h ∙ turn_alike i rows next p

  module _ (k i : ℕ) (rows last : List Edit) (e : turns_from s mode opened k i rows ≡ Ok last) where
    pub turns_length : length last ≡ length rows
    turns_length = alike_length last rows (turns_alike k i rows last e)

    pub turns_upward : Upward (length rows) rows → Upward (length last) last
    turns_upward w = upward_alike rows last (turns_alike k i rows last e) w
