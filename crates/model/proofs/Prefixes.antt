-- What names read, and what logs are left, after the first m of the ordered writes. Assumes nothing.
use Rattle.std.specs.Prelude.{None}
use mathlib.Core.Path.{◌≡◌, refl, sym, ap, ◌∙◌}
use mathlib.Core.Bool.{Bool, true, false}
use mathlib.Core.List.{[]}
use mathlib.Core.Logic.{◌⊎◌}
use Prim.Native.Nat.{ℕ, ◌≤◌, ◌<◌}
use native.Mathlib.Omega.{arith}
use lib.ListN.{length, take, length-append}
use lib.Dec.{ltb}
use borrow.Author.Tests.{ltb-true, ltb-false, eq-eqb}
use Rattle.target.specs.declared.NameNumber.{NameNumber}
use Rattle.target.proofs.Laws.{name_true}
use Rattle.transaction.specs.Change.{is_delete}
use Rattle.transaction.specs.Fields.{packed_refs_number}
use Rattle.model.specs.Store.{Store, count, entry_at, lines_of, mode_in}
use Rattle.model.specs.Read.{value_of, reading}
use Rattle.model.specs.Rows.{name_in, change_in, row_at}
use Rattle.model.specs.Due.{Stamp}
use Rattle.model.specs.Writes.{writes}
use Rattle.model.specs.Reached.{Sound}
use Rattle.model.specs.Demand3.{rows, apply_all, old, new, Deletes}
use Rattle.model.proofs.Switch.{settled}
use Rattle.model.proofs.Order.{either, stays_second, past}
use Rattle.model.proofs.Touch.{entry_after, nothing_after}
use Rattle.model.proofs.Phases.{no_phase}
use Rattle.model.proofs.RowFacts.{alone}
use Rattle.model.proofs.Moments.{front_writes, shown, shown_delete, shown_update}
use Rattle.model.proofs.Logs.{log_gone}

-- the store with the first m of the ordered writes made
abbrev pub made : Stamp → ℕ → Store → Store
made stamp m s = apply_all (take m (writes stamp s)) s

-- ---- names outside the rows

-- A name outside the rows reads as before.
pub outside : (s : Store) → Sound s → (stamp : Stamp) (m : ℕ) (n : NameNumber)
    → ((i : ℕ) → i < length (rows s) → name_in (row_at (rows s) i) ≡ n → ⊥)
    → reading (made stamp m s) n ≡ reading s n
unfolding reading
outside s sound stamp m n none = ap (value_of true) (go (ltb n.0 (count s)) refl)
  where
    other : (i : ℕ) → i < length (rows s) → (name_in (row_at (rows s) i)).0 ≡ n.0 → ⊥
    other i h e = none i h (name_true _ n (eq-eqb _ n.0 e))

    go : (t : Bool) → ltb n.0 (count s) ≡ t → entry_at (made stamp m s) n.0 ≡ entry_at s n.0
    go true h =
        entry_after (take m (writes stamp s)) s n.0 (ltb-true _ _ h)
        ∙ (no_phase stamp s (mode_in s.prepared) (rows s) n.0 other).calm (entry_at s n.0) m
    go false h =
        nothing_after (take m (writes stamp s)) s n.0 (ltb-false _ _ h) ∙ sym (nothing_after [] s n.0 (ltb-false _ _ h))

-- ---- names of rows

-- A name in the rows reads its old or its new value,
pub old_or_new : (s : Store) → Sound s → (stamp : Stamp) (m i : ℕ) → i < length (rows s)
    → (reading (made stamp m s) (name_in (row_at (rows s) i)) ≡ old s (row_at (rows s) i))
    ⊎ (reading (made stamp m s) (name_in (row_at (rows s) i)) ≡ new s (row_at (rows s) i))
old_or_new s sound stamp m i h = either (shown s sound stamp i h) m

-- and once new never old again after more writes.
pub never_back : (s : Store) → Sound s → (stamp : Stamp) (m j i : ℕ) → i < length (rows s) → m ≤ j
    → reading (made stamp m s) (name_in (row_at (rows s) i)) ≡ new s (row_at (rows s) i)
    → reading (made stamp j s) (name_in (row_at (rows s) i)) ≡ new s (row_at (rows s) i)
never_back s sound stamp m j i h le e = stays_second (shown s sound stamp i h) m j le e

-- After the whole list every row's name reads its new value.
pub all_new_lem : (s : Store) → Sound s → (stamp : Stamp) (m i : ℕ) → i < length (rows s) → length (writes stamp s) ≤ m
    → reading (made stamp m s) (name_in (row_at (rows s) i)) ≡ new s (row_at (rows s) i)
all_new_lem s sound stamp m i h le = settled (shown s sound stamp i h) m le

-- ---- deletions

-- Such a deletion shows only once W1 and W2 are made.
after_front : (s : Store) → Sound s → (stamp : Stamp) (m i : ℕ) → i < length (rows s) → Deletes s (row_at (rows s) i)
    → reading (made stamp m s) (name_in (row_at (rows s) i)) ≡ None → length (front_writes stamp s) ≤ m
after_front s sound stamp m i h d e = past (shown_delete s sound stamp i h d.is_delete) m (λ k. d.present (sym k ∙ e))

-- A deleted name that read present before has no log line once it reads absent.
pub no_log_left : (s : Store) → Sound s → (stamp : Stamp) (m i : ℕ) → i < length (rows s) → Deletes s (row_at (rows s) i)
    → reading (made stamp m s) (name_in (row_at (rows s) i)) ≡ None → lines_of (made stamp m s) (name_in (row_at (rows s) i)) ≡ []
no_log_left s sound stamp m i h d e =
    log_gone stamp s (mode_in s.prepared) (rows s) i h (alone s sound.fine i h) d.is_delete m (after_front s sound stamp m i h d e)

-- In modes 1 and 2, if such a deletion shows, every update shows.
pub updates_first_lem : (s : Store) → Sound s → packed_refs_number (mode_in s.prepared) ≤ 2
    → (stamp : Stamp) (m i j : ℕ) → i < length (rows s) → j < length (rows s)
    → Deletes s (row_at (rows s) i) → reading (made stamp m s) (name_in (row_at (rows s) i)) ≡ None
    → is_delete (change_in (row_at (rows s) j)) ≡ false
    → reading (made stamp m s) (name_in (row_at (rows s) j)) ≡ new s (row_at (rows s) j)
updates_first_lem s sound mode stamp m i j h g d e u =
    settled (shown_update s sound stamp j g u mode) m
    (let k = after_front s sound stamp m i h d e in omega (arith, simp length-append at k))
