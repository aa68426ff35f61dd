-- A slot of a table stands inside the region. Assumes nothing.
use mathlib.Core.Path.{◌≡◌}
use mathlib.Core.List.{List}
use Prim.Native.Nat.{ℕ, ◌+◌, ◌*◌, ◌≤◌, ◌<◌}
use native.Mathlib.Omega.{arith}
use mir.Syntax.{w64}
use mir.Val.{Fits}
use lib.ListN.{length}
use Rattle.region.specs.Layout.{region_size}
use Rattle.layout.specs.declared.Table.{Table}
use Rattle.layout.specs.declared.Table.TheVariants.{Names, Looses, Packeds, Locks, Rows, Lines}
use Rattle.layout.specs.Tables.{width_of, limit_of, base_of}

inside : (t : Table) (i : ℕ) → i < limit_of t → base_of t + i * width_of t + width_of t ≤ region_size
inside Names i h = omega arith
inside Looses i h = omega arith
inside Packeds i h = omega arith
inside Locks i h = omega arith
inside Rows i h = omega arith
inside Lines i h = omega arith

module _ (t : Table) (w base i : ℕ) (w= : w ≡ width_of t) (base= : base ≡ base_of t) (h : i < limit_of t) where
  within : base + i * w + w ≤ region_size
  within = rw (w=, base=) (inside t i h)

  pub slot_ends : (r : List ℕ) → length r ≡ region_size → base + i * w + 1 * w ≤ length r
  slot_ends r e = omega (arith, within)

  pub slot_from : Fits w64 (base + i * w)
  slot_from = record { fits = omega (arith, within) }

pub slot_offset : (t : Table) (w i : ℕ) → w ≡ width_of t → i < limit_of t → Fits w64 (i * w)
slot_offset t w i w= h = let g : base_of t + i * w + w ≤ region_size = rw w= (inside t i h) in record { fits = omega (arith, g) }
