-- What a part that is lent says of the whole. Assumes nothing.
use mathlib.Core.Path.{◌≡◌}
use mathlib.Core.List.{List}
use Prim.Native.Nat.{ℕ, ◌-◌}
use native.Mathlib.Omega.{arith}
use lib.ListN.{length, take, drop, length-drop}
use lib.Seq.{take_all}

-- a part that reaches to the end
pub to_end : (n : List ℕ) (i : ℕ) → take (length n - i) (drop i n) ≡ drop i n
to_end n i = take_all (length n - i) (drop i n) (omega (arith, length-drop i n))
