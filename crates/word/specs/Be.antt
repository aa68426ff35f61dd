-- Bytes, and big-endian numbers of any number of them. Both functions carry an accumulator, so that a loop keeps them by
-- one step of their clauses.
use Rattle.std.specs.Prelude.{List, [], ◌∷◌, ℕ, zero, suc, ◌+◌, ◌*◌, ◌/◌, ◌%◌, ◌<◌, take, drop}

-- the k elements from the a-th on: what `&s[a..a + k]` lends
abbrev pub cut : ℕ → ℕ → List ℕ → List ℕ
cut a k r = take k (drop a r)

-- every element is a byte
pub data Bytes : List ℕ → Type 0 where
  none : Bytes []
  more : {b : ℕ} {bs : List ℕ} → b < 256 → Bytes bs → Bytes (b ∷ bs)

-- the number whose bytes are acc's and then the list's, the highest first
unfoldable pub val_on : ℕ → List ℕ → ℕ
val_on acc [] = acc
val_on acc (b ∷ bs) = val_on (acc * 256 + b) bs

unfoldable pub val : List ℕ → ℕ
val bs = val_on 0 bs

-- the k low bytes of x, the highest first, in front of a list
unfoldable pub be_on : ℕ → ℕ → List ℕ → List ℕ
be_on zero x acc = acc
be_on (suc k) x acc = be_on k (x / 256) (x % 256 ∷ acc)

unfoldable pub be : ℕ → ℕ → List ℕ
be k x = be_on k x []
