-- A list with other elements in a part's place, and lists put together of sections, one after the other. Nothing here
-- knows of a layout.
use Rattle.std.specs.Prelude.{List, [], ◌∷◌, ◌++◌, ℕ, zero, suc, ◌+◌, take, drop}
use Rattle.word.specs.Be.{cut}

-- r with ys in the place of the k elements from the a-th on: what is there once `&mut s[a..a + k]` is back
abbrev pub put : ℕ → ℕ → List ℕ → List ℕ → List ℕ
put a k r ys = take a r ++ (ys ++ drop k (drop a r))

-- the sections, one after the other
unfoldable pub flat : List (List ℕ) → List ℕ
flat [] = []
flat (x ∷ xs) = x ++ flat xs

-- by the sections' lengths: where section i begins, and how long all are together
abbrev pub start : ℕ → List ℕ → ℕ
start zero ns = 0
start (suc i) [] = 0
start (suc i) (n ∷ ns) = n + start i ns

abbrev pub total : List ℕ → ℕ
total [] = 0
total (n ∷ ns) = n + total ns

-- the parts of the given lengths, from the a-th element on
unfoldable pub cuts : ℕ → List ℕ → List ℕ → List (List ℕ)
cuts a [] r = []
cuts a (n ∷ ns) r = cut a n r ∷ cuts (a + n) ns r
