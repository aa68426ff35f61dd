-- The committers in the content of their entry: read as they were written, written as they were read, how long they are, and where
-- a name stands. Assumes nothing.
use Rattle.std.specs.Prelude.{Some}
use mathlib.Core.Path.{◌≡◌, refl, ap, ap₂, subst, ◌∙◌}
use mathlib.Core.Bool.{Bool, true, false}
use mathlib.Core.List.{List, [], ◌∷◌, ◌++◌, append_assoc}
use Prim.Native.Nat.{ℕ, zero, suc, ◌+◌, ◌*◌, ◌≤◌, ◌<◌, ◌^◌}
use native.Mathlib.Omega.{arith}
use lib.ListN.{length, get_or, length-append}
use lib.Dec.{ltb, leb}
use lib.Pow.{are_bytes}
use borrow.Author.Tests.{leb-true}
use Rattle.word.specs.Be.{Bytes, cut, val, be}
use Rattle.word.specs.Be.Bytes.{none as no_bytes}
use Rattle.word.proofs.Be.{length_be, val_be, bytes_append, bytes_be, are_bytes_lem}
use Rattle.word.proofs.Cut.{cut_right}
use Rattle.word.proofs.Tests.{both_true, true_both, every_at}
use Rattle.model.specs.Basic.{collect}
use Rattle.model.specs.EditList.{◌>>=◌}
use Rattle.model.proofs.Binds.{none_some, some_is, some_then}
use Rattle.word.proofs.Fields.{at_seam}
use Rattle.settings.specs.Format.{Committer, Named, within, follows, rising, listed, split, followed, committer_in, committers_in}
use Rattle.settings.specs.Lent.{name_in, no_committer}
use Rattle.settings.proofs.Splits.{split_in, Pieces, split_back}

-- ---- one committer

-- a committer within bounds
pub record Fine (c : Committer) : Type 0 where
  pub low : c.number ≤ 65535
  pub short : length c.name ≤ 32
  pub bytes : Bytes c.name

-- one that may follow is
pub fine : (last : ℕ) (c : Committer) → follows last c ≡ true → Fine c
unfolding follows
fine last c h =
    let ts : List Bool = ltb last c.number ∷ leb c.number 65535 ∷ within 1 32 (length c.name) ∷ are_bytes c.name ∷ [] in
    record {
      low = leb-true _ _ (every_at ts 1 h);
      short = leb-true _ _ (both_true (leb 1 (length c.name)) _ (every_at ts 2 h)).1;
      bytes = are_bytes_lem c.name (every_at ts 3 h);
    }

-- a committer is 3 bytes longer than its name
pub listed_length : (c : Committer) → length (listed c) ≡ 3 + length c.name
unfolding listed
listed_length c = simp (length-append, length_be) (omega arith)

-- and bytes
listed_bytes : (last : ℕ) (c : Committer) → follows last c ≡ true → Bytes (listed c)
unfolding listed
listed_bytes last c h =
    bytes_append (bytes_be 2 c.number) (bytes_append (bytes_be 1 (length c.name)) (fine last c h).bytes)

-- a committer and what stands behind it, in pieces
pieces : (number size name rest : List ℕ) → (number ++ (size ++ name)) ++ rest ≡ number ++ (size ++ (name ++ rest))
pieces number size name rest = simp append_assoc

-- a committer that was written, and what stands behind it
pub committer_in_lem : (last : ℕ) (c : Committer) (rest : List ℕ) → follows last c ≡ true
    → committer_in last (listed c ++ rest) ≡ Some (record { committer = c; behind = rest })
unfolding committer_in listed
committer_in_lem last c rest h =
    let f = fine last c h in
    let n : ℕ = c.number in
    let k : ℕ = length c.name in
    let low : n < 256 ^ 2 = omega arith in
    let short : k < 256 ^ 1 = omega arith in
    rw (
      pieces (be 2 n) (be 1 k) c.name rest,
      split_in 2 (be 2 n) (be 1 k ++ (c.name ++ rest)) (length_be 2 n),
      split_in 1 (be 1 k) (c.name ++ rest) (length_be 1 k),
      val_be 1 k short,
      val_be 2 n low,
      split_in k c.name rest refl,
      h,
    )

-- a committer that was read, of bytes
pub record Read (last : ℕ) (r : List ℕ) (n : Named) : Type 0 where
  pub whole : listed n.committer ++ n.behind ≡ r
  pub after : follows last n.committer ≡ true
  pub rest : Bytes n.behind

-- what is read is what the writer makes of the committer
pub committer_back : (last : ℕ) (r : List ℕ) (n : Named) → Bytes r → committer_in last r ≡ Some n → Read last r n
unfolding committer_in listed
committer_back last r n b h =
    some_then (split 2 r) _ n h λ number p h₁.
    some_then (split 1 number.behind) _ n h₁ λ size q h₂.
    some_then (split (val size.front) size.behind) _ n h₂ λ name o h₃.
    let s : Pieces 2 r number = split_back 2 r number b p in
    let t : Pieces 1 number.behind size = split_back 1 _ size s.rest q in
    let u : Pieces (val size.front) size.behind name = split_back _ _ name t.rest o in
    let c : Committer = record { number = val number.front; name = name.front } in
    let w : listed c ++ name.behind ≡ r =
    ap₂ (λ (xs ys : List ℕ). (xs ++ (ys ++ name.front)) ++ name.behind) s.number (ap (be 1) u.size ∙ t.number)
    ∙ pieces number.front size.front name.front name.behind
    ∙ ap (λ (l : List ℕ). number.front ++ l) (ap (λ (l : List ℕ). size.front ++ l) u.whole ∙ t.whole)
    ∙ s.whole in
    go c name.behind w u.rest (follows last c) refl h₃
  where
    go : (c : Committer) (l : List ℕ) → listed c ++ l ≡ r → Bytes l → (t : Bool) → follows last c ≡ t → followed t c l ≡ Some n
        → Read last r n
    go c l w b false i q = absurd (none_some q)
    go c l w b true i q = subst (Read last r) (some_is q) (record { whole = w; after = i; rest = b })

-- ---- all of them

-- where a byte stands, one more is read
pub one_further : (k last : ℕ) (r : List ℕ) → 0 < length r
    → committers_in (suc k) last r
    ≡ (committer_in last r >>= λ n. committers_in k n.committer.number n.behind >>= λ others. Some (n.committer ∷ others))
unfolding committers_in
one_further k last [] h = absurd (omega arith)
one_further k last (x ∷ r) h = refl

-- committers that were written are read
pub committers_in_lem : (k last : ℕ) (cs : List Committer) → length cs ≤ k → rising last cs ≡ true
    → committers_in k last (collect listed cs) ≡ Some cs
unfolding committers_in rising
committers_in_lem zero last [] h g = refl
committers_in_lem zero last (c ∷ cs) h g = absurd (omega arith)
committers_in_lem (suc k) last [] h g = refl
committers_in_lem (suc k) last (c ∷ cs) h g =
    let b = both_true (follows last c) (rising c.number cs) g in
    let e : 0 < length (listed c ++ collect listed cs) = rw (length-append, listed_length) (omega arith) in
    one_further k last (listed c ++ collect listed cs) e
    ∙ rw (committer_in_lem last c (collect listed cs) b.0, committers_in_lem k c.number cs (omega arith) b.1)

-- committers that were read, of bytes
pub record Listed (k last : ℕ) (r : List ℕ) (cs : List Committer) : Type 0 where
  pub whole : collect listed cs ≡ r
  pub few : length cs ≤ k
  pub order : rising last cs ≡ true

-- nothing is left
at_end : (k last : ℕ) (cs : List Committer) → Some [] ≡ Some cs → Listed k last [] cs
unfolding rising
at_end k last cs h = subst (Listed k last []) (some_is h) (record { whole = refl; few = omega arith; order = refl })

-- what is read is what the writer makes of the committers
pub committers_back : (k last : ℕ) (r : List ℕ) (cs : List Committer) → Bytes r → committers_in k last r ≡ Some cs → Listed k last r cs
unfolding committers_in rising
committers_back zero last [] cs b h = at_end zero last cs h
committers_back zero last (x ∷ r) cs b h = absurd (none_some h)
committers_back (suc k) last [] cs b h = at_end (suc k) last cs h
committers_back (suc k) last (x ∷ r) cs b h =
    some_then (committer_in last (x ∷ r)) _ cs h λ first p h₁.
    some_then (committers_in k first.committer.number first.behind) _ cs h₁ λ others q h₂.
    let s : Read last (x ∷ r) first = committer_back last (x ∷ r) first b p in
    let t : Listed k first.committer.number first.behind others = committers_back k _ _ others s.rest q in
    subst (Listed (suc k) last (x ∷ r)) (some_is h₂) (record {
      whole = ap (λ (l : List ℕ). listed first.committer ++ l) t.whole ∙ s.whole;
      few = omega arith;
      order = true_both s.after t.order;
    })

-- ---- how long they are, and that they are bytes

-- each takes up to 35 bytes
pub all_short : (last : ℕ) (cs : List Committer) → rising last cs ≡ true → length (collect listed cs) ≤ length cs * 35
unfolding rising
all_short last [] h = omega arith
all_short last (c ∷ cs) h =
    let b = both_true (follows last c) (rising c.number cs) h in
    let f = fine last c b.0 in
    let e : length (collect listed cs) ≤ length cs * 35 = all_short c.number cs b.1 in
    rw (length-append, listed_length) (omega arith)

-- what is written for them is bytes
pub all_bytes : (last : ℕ) (cs : List Committer) → rising last cs ≡ true → Bytes (collect listed cs)
unfolding rising
all_bytes last [] h = no_bytes
all_bytes last (c ∷ cs) h =
    let b = both_true (follows last c) (rising c.number cs) h in
    bytes_append (listed_bytes last c b.0) (all_bytes c.number cs b.1)

-- ---- names

-- a name is that stretch of the content
pub name_in_lem : (cs : List Committer) (i : ℕ) (rest : List ℕ) → i < length cs
    → cut (name_in i cs) (length (get_or cs i no_committer).name) (collect listed cs ++ rest) ≡ (get_or cs i no_committer).name
unfolding name_in listed
name_in_lem [] i rest h = absurd (omega arith)
name_in_lem (c ∷ cs) zero rest h =
    let p : List ℕ = be 2 c.number ++ be 1 (length c.name) in
    let e : length p ≡ 3 = simp (length-append, length_be) (omega arith) in
    let f : (listed c ++ collect listed cs) ++ rest ≡ p ++ (c.name ++ (collect listed cs ++ rest)) = simp append_assoc in
    ap (cut 3 (length c.name)) f ∙ at_seam p c.name _ 3 _ e refl
name_in_lem (c ∷ cs) (suc i) rest h =
    let k : ℕ = length (get_or cs i no_committer).name in
    ap (cut (length (listed c) + name_in i cs) k) (append_assoc (listed c) (collect listed cs) rest)
    ∙ cut_right (name_in i cs) k (listed c) (collect listed cs ++ rest)
    ∙ name_in_lem cs i rest (omega arith)
