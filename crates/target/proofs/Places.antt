-- The name whose number is a place. Assumes nothing.
use mathlib.Core.Path.{◌≡◌, ap}
use Prim.Native.Nat.{ℕ, ◌<◌}
use Rattle.target.specs.declared.NameNumber.{NameNumber}

pub at_place : (n : NameNumber) (i : ℕ) → n ≡ record { 0 = i } → n.0 ≡ i
at_place n i e = ap (λ (k : NameNumber). k.0) e

-- it lies below a bound of the place
pub placed : (n : NameNumber) (i m : ℕ) → n ≡ record { 0 = i } → i < m → n.0 < m
placed n i m e h = rw e h
