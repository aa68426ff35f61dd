-- A text of at most w bytes in a slot of w + 1: its length, its bytes, and zeros.
use Rattle.std.specs.Prelude.{List, ◌∷◌, ◌++◌, Bool, ◌&&◌, ℕ, ◌-◌, ◌≤◌, length, get_or, take, drop, replicate, leb}
use Rattle.word.specs.Be.{Bytes}
use Rattle.word.specs.Codec.{zeros}

-- what is held: at most w bytes
pub record FineText (w : ℕ) (xs : List ℕ) : Type 0 where
  pub short : length xs ≤ w
  pub bytes : Bytes xs

-- a longer text is cut, so that every form is as wide
unfoldable pub enc_text : ℕ → List ℕ → List ℕ
enc_text w xs = length xs ∷ (take w xs ++ replicate (w - length (take w xs)) 0)

unfoldable pub dec_text : List ℕ → List ℕ
dec_text r = take (get_or r 0 0) (drop 1 r)

unfoldable pub test_text : ℕ → List ℕ → Bool
test_text w r = leb (get_or r 0 0) w && zeros (drop (get_or r 0 0) (drop 1 r))
