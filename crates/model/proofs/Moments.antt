-- The moment from which a row shows: before it the row's name reads its old value, from it on its new one. Assumes nothing.
use mathlib.Core.Path.{◌≡◌, ap, ◌∙◌}
use mathlib.Core.Bool.{false, true}
use mathlib.Core.List.{List, ◌++◌}
use mathlib.Core.Logic.{◌⊎◌}
use mathlib.Core.Logic.◌⊎◌.{inl, inr}
use Prim.Native.Nat.{ℕ, ◌≤◌, ◌<◌}
use native.Mathlib.Omega.{arith}
use lib.ListN.{length, take, length-append}
use Rattle.transaction.specs.Change.{is_delete}
use Rattle.transaction.specs.Fields.{packed_refs_number}
use Rattle.model.specs.Basic.{collect}
use Rattle.model.specs.Store.{Store, entry_of, mode_in}
use Rattle.model.specs.Read.{value_of, reading}
use Rattle.model.specs.Rows.{name_in, change_in, row_at}
use Rattle.model.specs.Due.{Stamp}
use Rattle.model.specs.Writes.{Write, w1, w2, ordered_writes, writes}
use Rattle.model.specs.Reached.{Sound}
use Rattle.model.specs.Demand3.{rows, apply_all, old, new}
use Rattle.model.proofs.Switch.{through, Switch, wider}
use Rattle.model.proofs.Order.{switch_first, switch_last}
use Rattle.model.proofs.Touch.{touch, entry_after}
use Rattle.model.proofs.Phases.{phase_1, phase_2, phase_3, phase_4}
use Rattle.model.proofs.Shows.{Early, Late}
use Rattle.model.proofs.EarlyLate.{deletion, update, row}
use Rattle.model.proofs.RowFacts.{alone, held, Of, agreed}

-- ---- the words of the statements

-- the writes of W1, and of W1 and W2
abbrev pub first_writes : Stamp → Store → List Write
first_writes stamp s = collect (w1 stamp s (mode_in s.prepared)) (rows s)

abbrev pub front_writes : Stamp → Store → List Write
front_writes stamp s = first_writes stamp s ++ collect (w2 s) (rows s)

-- what row i's name reads after each number of writes: old before a moment between low and high, new from it on
abbrev pub Shown : Stamp → Store → ℕ → ℕ → ℕ → Type 0
Shown stamp s i low high =
    Switch (λ (m : ℕ). reading (apply_all (take m (writes stamp s)) s) (name_in (row_at (rows s) i)))
    (old s (row_at (rows s) i)) (new s (row_at (rows s) i)) low high

-- another way to see the same
along : {X : Type 0} {f g : ℕ → X} {a b : X} {low high : ℕ}
    → ((m : ℕ) → g m ≡ f m) → Switch f a b low high → Switch g a b low high
along e s =
    record {
      moment = s.moment;
      least = s.least;
      most = s.most;
      before = λ m h. e m ∙ s.before m h;
      since = λ m h. e m ∙ s.since m h;
    }

module _ (s : Store) (sound : Sound s) (stamp : Stamp) (i : ℕ) (h : i < length (rows s)) where
  -- what the name reads is what its entry shows
  reads : (ws : List Write)
      → reading (apply_all ws s) (name_in (row_at (rows s) i))
      ≡ value_of true (through (touch (name_in (row_at (rows s) i)).0) ws (entry_of s (name_in (row_at (rows s) i))))
  unfolding reading
  reads ws = ap (value_of true) (entry_after ws s (name_in (row_at (rows s) i)).0 (held s sound.fine i h))

  shown_early : Of Early s i → Shown stamp s i 0 (length (first_writes stamp s))
  unfolding reading ordered_writes
  shown_early k =
      along (λ m. reads (take m (writes stamp s)))
      (switch_first (value_of true)
      (phase_1 stamp s (mode_in s.prepared) (rows s) i h (alone s sound.fine i h) (entry_of s (name_in (row_at (rows s) i))))
      (phase_2 s (rows s) (name_in (row_at (rows s) i)).0)
      (phase_3 stamp s (mode_in s.prepared) (rows s) i h (alone s sound.fine i h) _)
      (phase_4 stamp s (mode_in s.prepared) (rows s) i h (alone s sound.fine i h) _)
      k.set k.behind (ap (value_of true) k.left ∙ k.behind))

  shown_late : Of Late s i → Shown stamp s i (length (front_writes stamp s)) (length (writes stamp s))
  unfolding reading ordered_writes
  shown_late k =
      along (λ m. reads (take m (writes stamp s)))
      (switch_last (value_of true)
      (phase_1 stamp s (mode_in s.prepared) (rows s) i h (alone s sound.fine i h) (entry_of s (name_in (row_at (rows s) i))))
      (phase_2 s (rows s) (name_in (row_at (rows s) i)).0)
      (phase_3 stamp s (mode_in s.prepared) (rows s) i h (alone s sound.fine i h) _)
      (phase_4 stamp s (mode_in s.prepared) (rows s) i h (alone s sound.fine i h) _)
      (ap (value_of true) k.left) k.between k.gone)

  first_within : length (first_writes stamp s) ≤ length (writes stamp s)
  unfolding ordered_writes
  first_within = rw length-append (omega arith)

  -- a deletion shows after W2 at the earliest
  pub shown_delete : is_delete (change_in (row_at (rows s) i)) ≡ true
      → Shown stamp s i (length (front_writes stamp s)) (length (writes stamp s))
  shown_delete k = shown_late (deletion _ _ _ _ _ (agreed s sound i h) k)

  -- an update shows after W1 at the latest, in modes 1 and 2
  pub shown_update : is_delete (change_in (row_at (rows s) i)) ≡ false → packed_refs_number (mode_in s.prepared) ≤ 2
      → Shown stamp s i 0 (length (first_writes stamp s))
  shown_update k mode = shown_early (update _ _ _ _ _ (agreed s sound i h) k mode)

  -- every row shows at the end
  pub shown : Shown stamp s i 0 (length (writes stamp s))
  shown = go (row _ _ _ _ _ (agreed s sound i h))
    where
      go : Of Early s i ⊎ Of Late s i → Shown stamp s i 0 (length (writes stamp s))
      go (inl k) = wider (omega arith) first_within (shown_early k)
      go (inr k) = wider (omega arith) (omega arith) (shown_late k)
