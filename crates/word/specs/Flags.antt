-- Flags by number: of which numbers below 256 something holds.
use Rattle.std.specs.Prelude.{◌≡◌, Bool, false, List, ℕ, ◌<◌, length, get_or}

pub record Flags (f : ℕ → Bool) (flags : List Bool) : Type 0 where
  pub size : length flags ≡ 256
  pub flag : (n : ℕ) → n < 256 → get_or flags n false ≡ f n

-- none is up
abbrev pub nowhere : ℕ → Bool
nowhere n = false
