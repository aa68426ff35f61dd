-- A turn, by what it leaves: the store as it was, or with one write made. Assumes nothing.
use Rattle.std.specs.Prelude.{Option}
use mathlib.Core.Path.{◌≡◌, refl, sym, subst}
use mathlib.Core.List.{List, [], ◌∷◌}
use mathlib.Core.Logic.{◌⊎◌}
use mathlib.Core.Logic.◌⊎◌.{inl, inr}
use Prim.Native.Nat.{ℕ, ◌≤◌, ◌<◌}
use native.Mathlib.Omega.{arith}
use lib.ListN.{length}
use Rattle.model.specs.Store.{Store, Prepared, count, rows_in}
use Rattle.model.specs.Rows.{name_in, row_at}
use Rattle.model.specs.Due.{Stamp}
use Rattle.model.specs.Writes.{Write, apply}
use Rattle.model.specs.Writes.Write.{append_line, write_loose, remove_log, write_packed, remove_loose}
use Rattle.model.specs.Demand3.{by}
use Rattle.model.proofs.KeptCommit.{apply_count}
use Rattle.region.specs.Region.{view}
use Rattle.rows.specs.Rows.{Named, Apart}
use Rattle.writes.specs.declared.NextWrite.{NextWrite}
use Rattle.writes.specs.Next.{rows_of, the_row, write_list, first_at, second_at}
use Rattle.committing.specs.declared.Ran.{Ran}
use Rattle.committing.specs.Running.{Turned, Placed}

-- a write leaves what is prepared
apply_prepared : (w : Write) (s : Store) → (apply w s).prepared ≡ s.prepared
unfolding apply
apply_prepared (append_line l) s = refl
apply_prepared (write_loose n t) s = refl
apply_prepared (remove_log n) s = refl
apply_prepared (write_packed ps) s = refl
apply_prepared (remove_loose n) s = refl

-- rows that are the same, among as many names
pub named_as : (s t : Store) → t.prepared ≡ s.prepared → count t ≡ count s → Named s → Named t
named_as s t e n named = record {
  named = λ i h. subst (λ (m : ℕ). (name_in (the_row t i)).0 < m) (sym n)
      (subst (λ (p : Option Prepared). i < length (rows_in p) → (name_in (row_at (rows_in p) i)).0 < count s) (sym e) (named.named i) h);
}

pub apart_as : (s t : Store) → t.prepared ≡ s.prepared → Apart (rows_of s) → Apart (rows_of t)
apart_as s t e apart = subst (λ (p : Option Prepared). Apart (rows_in p)) (sym e) apart

module _ (stamp : Stamp) (us : List Write) (a b : Ran) (r r' : List ℕ) (t : Turned stamp a us b r r') where
  -- what holds of the store as it was, and of the store with the write made
  pub either : (P : Store → Type 0) → P (view r) → ((w : Write) → us ≡ w ∷ [] → P (apply w (view r))) → P (view r')
  either P p q = go t.store
    where
      go : (view r' ≡ view r) ⊎ ((w : Write) × (us ≡ w ∷ []) × (view r' ≡ apply w (view r))) → P (view r')
      go (inl e) = subst P (sym e) p
      go (inr m) = subst P (sym m.2) (q m.0 m.1)

  pub turned_rows : (view r').prepared ≡ (view r).prepared
  turned_rows = either (λ (s : Store). s.prepared ≡ (view r).prepared) refl (λ w e. apply_prepared w (view r))

  pub turned_count : count (view r') ≡ count (view r)
  turned_count = either (λ (s : Store). count s ≡ count (view r)) refl (λ w e. apply_count w (view r))

-- ---- the two turns of a place

module _ (c k : ℕ) (r : List ℕ) (x : Option NextWrite) (a b : Ran) (r' : List ℕ) (t : Turned (by c) a (write_list (view r) x) b r r') where
  pub turned_first : write_list (view r) x ≡ first_at (by c) (view r) k → Turned (by c) a (first_at (by c) (view r) k) b r r'
  turned_first e = subst (λ (us : List Write). Turned (by c) a us b r r') e t

  pub turned_second : write_list (view r) x ≡ second_at (view r) k → Turned (by c) a (second_at (view r) k) b r r'
  turned_second e = subst (λ (us : List Write). Turned (by c) a us b r r') e t

pub fewer : (a : Ran) → a.made < 2000 → a.made ≤ 2000
fewer a h = omega arith

module _ (c k : ℕ) (a b : Ran) (r r' : List ℕ) (t : Turned (by c) a (first_at (by c) (view r) k) b r r') where
  pub half_named : Named (view r) → Named (view r')
  half_named named = named_as (view r) (view r') (turned_rows (by c) _ a b r r' t) (turned_count (by c) _ a b r r' t) named

  pub half_apart : Apart (rows_of (view r)) → Apart (rows_of (view r'))
  half_apart apart = apart_as (view r) (view r') (turned_rows (by c) _ a b r r' t) apart

  pub half_made : a.made < 2000 → b.made ≤ 2000
  half_made h = omega (arith, t.made)

  pub placed : (d : Ran) (r'' : List ℕ) → length r' ≡ length r → Turned (by c) b (second_at (view r') k) d r' r'' → Placed (by c) a k d r r''
  placed d r'' e u = record { half = b; between = r'; size = e; first = t; second = u }
