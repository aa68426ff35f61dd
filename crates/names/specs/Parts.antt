-- Where a piece ends, as a component or a line is one.
use Rattle.std.specs.Prelude.{cond, List, [], ◌∷◌, ℕ, zero, suc, eqb}

-- how many bytes stand before the first byte c, or in all where there is none
abbrev pub up_to : ℕ → List ℕ → ℕ
up_to c [] = zero
up_to c (b ∷ bs) = cond (eqb b c) zero (suc (up_to c bs))
