-- A number in its place: the part from a up to a + w is w bytes wide, read and written. Assumes nothing.
use mathlib.Core.Path.{◌≡◌, ap, ◌∙◌}
use mathlib.Core.List.{List}
use Prim.Native.Nat.{ℕ, ◌+◌, ◌-◌, ◌≤◌, ◌<◌, ◌^◌}
use native.Mathlib.Omega.{arith}
use lib.ListN.{length, get_or}
use Rattle.word.specs.Be.{cut, val, be}
use Rattle.word.specs.Cut.{put}
use Rattle.word.proofs.Be.{val_cut, bytes_all}
use Rattle.word.proofs.Cut.{length_cut}

-- what is lent from a up to a + w has w bytes
pub width : (a w : ℕ) → a + w - a ≡ w
width a w = omega arith

pub lent : (a w x : ℕ) (s : List ℕ) → x ≡ val (cut a (a + w - a) s) → x ≡ val (cut a w s)
lent a w x s e = e ∙ ap (λ (k : ℕ). val (cut a k s)) (width a w)

pub put_at_is : (r b : List ℕ) (a w x : ℕ) → a + w ≤ length r → b ≡ be (length (cut a (a + w - a) r)) x → put a (a + w - a) r b ≡ put a w r (be w x)
put_at_is r b a w x h e =
    ap (λ (k : ℕ). put a k r b) (width a w)
    ∙ ap (λ (b : List ℕ). put a w r b) (e ∙ ap (λ (k : ℕ). be k x) (ap (λ (k : ℕ). length (cut a k r)) (width a w) ∙ length_cut a w r h))

-- two bytes make a number of 16 bits
pub short : (s : List ℕ) (a x : ℕ) → x ≡ val (cut a 2 s) → ((i : ℕ) → get_or s i 0 < 256) → x < 2 ^ 16
short s a x e h = let q : val (cut a 2 s) < 256 ^ 2 = val_cut a 2 (bytes_all s h) in omega arith
