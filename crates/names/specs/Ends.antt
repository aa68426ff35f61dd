-- Whether one byte string ends another.
use Rattle.std.specs.Prelude.{Bool, List, ℕ, ◌-◌, length, drop}
use Rattle.model.specs.Names.{same_bytes}

-- the first ends the second: `ends_in t` is `ends (text t)`
abbrev pub ends : List ℕ → List ℕ → Bool
ends s n = same_bytes s (drop (length n - length s) n)
