use mathlib.Core.Path.{◌≡◌}
use mathlib.Core.List.{List}
use Prim.Native.Nat.{ℕ, ◌≤◌}
use native.Mathlib.Omega.{arith}
use lib.ListN.{length, set, length-set}
use Rattle.region.specs.Region.{Laid}
use Rattle.writers.proofs.PutLaws.{add_name_is}
use Rattle.writers.proofs.add_name.Goals as goal

-- `add_name` meets its contract: the length, the bytes and the new count are written. Assumes nothing.
count_room : (r p : List ℕ) (a x : ℕ) → Laid r → length p ≡ length (set r a x) → 8 ≤ length p
count_room r p a x l e = let s : length r ≡ 49549 = l.size in omega (arith, length-set r a x)

pub put_at-requires : goal.put_at-requires
put_at-requires c = search (count_room, c.region-1.given.1)

pub returns : goal.returns
returns c = search (add_name_is, c.copy.ensures)
