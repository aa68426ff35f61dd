-- The tests of settings, in the order of the code. Assumes nothing.
use mathlib.Core.Path.{◌≡◌, refl, sym}
use mathlib.Core.Bool.{Bool, true, false, ◌&&◌, ◌||◌, and-false}
use mathlib.Core.List.{List}
use Prim.Native.Nat.{ℕ}
use lib.Dec.{eqb, leb}
use lib.ListN.{length}
use Rattle.settings.specs.Format.{Committer, within, rising, has_site, in_bounds, writable}
use Rattle.scribe.specs.Writing.{numbers_fit}

module _ (v log mode site : ℕ) where
  -- six tests in another order
  regroup : (a b m r s t : Bool) → (a && (b && (m && (r && (s && true))))) && t ≡ ((a && (b && (s && (t && true)))) && (m && r))
  regroup false b m r s t = refl
  regroup true false m r s t = refl
  regroup true true false r s t = sym (and-false (s && (t && true)))
  regroup true true true false s t = sym (and-false (s && (t && true)))
  regroup true true true true false t = refl
  regroup true true true true true false = refl
  regroup true true true true true true = refl

  -- the tests that the code makes, in its order
  pub writable_by : (cs : List Committer)
      → writable v (record { log = log; mode = mode; committers = cs; site = site })
      ≡ (numbers_fit v log mode site && (leb (length cs) 16 && rising 0 cs))
  unfolding writable in_bounds numbers_fit
  writable_by cs =
      regroup (within 0 2 log) (within 1 3 mode) (leb (length cs) 16) (rising 0 cs) (within 0 65535 site) (has_site v || eqb site 0)
