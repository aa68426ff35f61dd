-- A row of numbers as big-endian fields of given widths, one after the other.
use Rattle.std.specs.Prelude.{List, [], ◌∷◌, ◌++◌, ℕ, ◌+◌, ◌^◌, ◌<◌}
use Rattle.word.specs.Be.{cut, val, be}
use Rattle.word.specs.Cut.{put}

-- the bytes of the numbers; a number that is missing stands as 0
unfoldable pub fields : List ℕ → List ℕ → List ℕ
fields [] xs = []
fields (w ∷ ws) [] = be w 0 ++ fields ws []
fields (w ∷ ws) (x ∷ xs) = be w x ++ fields ws xs

-- the numbers from the a-th byte on
abbrev pub unfields : ℕ → List ℕ → List ℕ → List ℕ
unfields a [] r = []
unfields a (w ∷ ws) r = val (cut a w r) ∷ unfields (a + w) ws r

-- a number for each width, which fits it
pub data Fit : List ℕ → List ℕ → Type 0 where
  end : Fit [] []
  and : {w x : ℕ} {ws xs : List ℕ} → x < 256 ^ w → Fit ws xs → Fit (w ∷ ws) (x ∷ xs)

-- as many numbers as widths
pub data Same : List ℕ → List ℕ → Type 0 where
  none : Same [] []
  one : {w x : ℕ} {ws xs : List ℕ} → Same ws xs → Same (w ∷ ws) (x ∷ xs)

-- the fields written one after the other, from the a-th byte on: what straight-line code leaves
abbrev pub puts : ℕ → List ℕ → List ℕ → List ℕ → List ℕ
puts a [] xs r = r
puts a (w ∷ ws) [] r = r
puts a (w ∷ ws) (x ∷ xs) r = puts (a + w) ws xs (put a w r (be w x))
