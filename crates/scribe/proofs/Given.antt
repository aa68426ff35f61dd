-- The committers given: where their tests stop, one committer more, and how long their bytes are. Assumes nothing.
use Rattle.std.specs.Prelude.{Option, Some, None, unwrap_or}
use mathlib.Core.Path.{◌≡◌, refl, sym, ap, ◌∙◌}
use mathlib.Core.Bool.{Bool, true, false, ◌&&◌, not, and-true, and-false, false≢true}
use mathlib.Core.List.{List, [], ◌∷◌, ◌++◌}
use Prim.Native.Nat.{ℕ, suc, ◌+◌, ◌-◌, ◌*◌, ◌<◌, ◌≤◌}
use native.Mathlib.Omega.{arith}
use lib.ListN.{length, take, drop, get_or, length-drop, length-append}
use lib.Seq.{length-take-le}
use lib.Dec.{eqb, ltb, leb}
use lib.Pow.{are_bytes}
use borrow.Author.Tests.{le-leb, lt-leb, ne_eqb, leb-true, leb-false, not-true, not-false}
use Rattle.word.specs.Codec.{is_some}
use Rattle.word.proofs.Be.{bytes_all, bytes_take, bytes_are}
use Rattle.word.proofs.Tests.{both_true}
use Rattle.model.specs.Basic.{collect}
use Rattle.model.specs.EditList.{◌>>=◌}
use Rattle.settings.specs.Format.{Committer, within, follows, rising, listed, split}
use Rattle.settings.specs.Lent.{committers_given, settings_given}
use Rattle.settings.proofs.Splits.{to_end}
use Rattle.settings.proofs.Committers.{fine, listed_length}
use Rattle.scribe.specs.Writing.{given_rising, given_writable, committers_from, content_from, content_length, numbers_fit}
use Rattle.scribe.proofs.Tests.{writable_by}

-- ---- one committer more

-- one committer before those given
abbrev with_first : Committer → Option (List Committer) → Option (List Committer)
with_first c None = None
with_first c (Some cs) = Some (c ∷ cs)

-- the first committer given, and the others
abbrev pub first : List ℕ → List ℕ → List ℕ → Committer
first n l s = record { number = get_or n 0 0; name = take (get_or l 0 0) s }

abbrev pub others : List ℕ → List ℕ → List ℕ → Option (List Committer)
others n l s = committers_given (drop 1 n) (drop 1 l) (drop (get_or l 0 0) s)

-- the format says the same by a bind
with_first_lem : (c : Committer) (o : Option (List Committer)) → (o >>= λ cs. Some (c ∷ cs)) ≡ with_first c o
with_first_lem c None = refl
with_first_lem c (Some cs) = refl

-- a first number, a first length and names that are as long: one committer more
given_more : (n l s : List ℕ) → (length n ≡ 0 → ⊥) → (length l ≡ 0 → ⊥) → get_or l 0 0 ≤ length s
    → committers_given n l s ≡ with_first (first n l s) (others n l s)
unfolding committers_given split
given_more [] l s p q h = absurd (p refl)
given_more (x ∷ n) [] s p q h = absurd (q refl)
given_more (x ∷ n) (k ∷ l) s p q h =
    rw (le-leb k (length s) h) (with_first_lem (record { number = x; name = take k s }) (committers_given n l (drop k s)))

-- names that are too short give none
given_short : (n l s : List ℕ) → length s < get_or l 0 0 → committers_given n l s ≡ None
unfolding committers_given split
given_short [] [] s h = absurd (omega arith)
given_short [] (k ∷ l) s h = refl
given_short (x ∷ n) [] s h = refl
given_short (x ∷ n) (k ∷ l) s h = rw (lt-leb k (length s) h)

-- a number with no length gives none
given_lacking : (n l s : List ℕ) → (length n ≡ 0 → ⊥) → length l ≡ 0 → committers_given n l s ≡ None
unfolding committers_given
given_lacking [] l s p q = absurd (p refl)
given_lacking (x ∷ n) [] s p q = refl
given_lacking (x ∷ n) (k ∷ l) s p q = absurd (omega arith)

-- ---- the test of the committers

-- four tests, the last one apart
group : (a b c d : Bool) → a && (b && (c && (d && true))) ≡ ((a && (b && c)) && d)
group false b c d = refl
group true false c d = refl
group true true false d = refl
group true true true d = and-true d

-- a committer follows: its heading, and the bytes of its name
follows_is : (last : ℕ) (c : Committer) (k : ℕ) → length c.name ≡ k
    → follows last c ≡ ((ltb last c.number && (leb c.number 65535 && within 1 32 k)) && are_bytes c.name)
unfolding follows
follows_is last c k e =
    rw (← e) (group (ltb last c.number) (leb c.number 65535) (within 1 32 (length c.name)) (are_bytes c.name))

-- the first committer, then the others
rising_with : (last : ℕ) (c : Committer) (o : Option (List Committer))
    → given_rising last (with_first c o) ≡ (follows last c && given_rising c.number o)
unfolding rising
rising_with last c None = sym (and-false (follows last c))
rising_with last c (Some cs) = refl

-- no numbers, no lengths: no names may be left
pub none_given : (n l s : List ℕ) (last : ℕ) → length n ≡ 0 → length l ≡ 0
    → eqb (length s) 0 ≡ given_rising last (committers_given n l s)
unfolding committers_given rising
none_given [] [] [] last p q = refl
none_given [] [] (b ∷ s) last p q = ne_eqb (length (b ∷ s)) 0 (λ e. absurd (omega arith))
none_given [] (k ∷ l) s last p q = absurd (omega arith)
none_given (x ∷ n) l s last p q = absurd (omega arith)

-- a length with no number
pub lengths_left : (n l s : List ℕ) (last : ℕ) → length n ≡ 0 → (length l ≡ 0 → ⊥)
    → false ≡ given_rising last (committers_given n l s)
unfolding committers_given
lengths_left [] [] s last p q = absurd (q refl)
lengths_left [] (k ∷ l) s last p q = refl
lengths_left (x ∷ n) l s last p q = absurd (omega arith)

-- a number with no length
pub numbers_left : (n l s : List ℕ) (last : ℕ) → (length n ≡ 0 → ⊥) → length l ≡ 0
    → false ≡ given_rising last (committers_given n l s)
numbers_left n l s last p q = rw (given_lacking n l s p q)

module _ (n l s : List ℕ) (last : ℕ) where
  -- names that are too short
  pub name_short : length s < get_or l 0 0 → false ≡ given_rising last (committers_given n l s)
  name_short h = rw (given_short n l s h)

  module _ (p : length n ≡ 0 → ⊥) (q : length l ≡ 0 → ⊥) (t : Bool)
      (is : t ≡ (ltb last (get_or n 0 0) && (leb (get_or n 0 0) 65535 && within 1 32 (get_or l 0 0)))) where
    -- the first heading, the bytes of its name, and the others
    tested : get_or l 0 0 ≤ length s
        → given_rising last (committers_given n l s)
        ≡ ((t && are_bytes (take (get_or l 0 0) s)) && given_rising (get_or n 0 0) (others n l s))
    tested h =
        ap (given_rising last) (given_more n l s p q h)
        ∙ rising_with last (first n l s) (others n l s)
        ∙ ap (λ (b : Bool). b && given_rising (get_or n 0 0) (others n l s))
        (follows_is last (first n l s) (get_or l 0 0) (length-take-le (get_or l 0 0) s h)
        ∙ ap (λ (b : Bool). b && are_bytes (take (get_or l 0 0) s)) (sym is))

    -- the first heading is out of bounds
    pub heading_off : not t ≡ true → false ≡ given_rising last (committers_given n l s)
    heading_off e = go (leb (get_or l 0 0) (length s)) refl
      where
        go : (b : Bool) → leb (get_or l 0 0) (length s) ≡ b → false ≡ given_rising last (committers_given n l s)
        go true h = sym (tested (leb-true (get_or l 0 0) (length s) h) ∙ rw (not-true t e))
        go false h = name_short (leb-false (get_or l 0 0) (length s) h)

    -- the first heading is in bounds: the others decide
    pub committers_more : (r : Bool) → not t ≡ false → get_or l 0 0 ≤ length s → ((i : ℕ) → get_or s i 0 < 256)
        → r ≡ given_rising (get_or n 0 0) (committers_given (take (length n - 1) (drop 1 n)) (take (length l - 1) (drop 1 l)) (take (length s - get_or l 0 0) (drop (get_or l 0 0) s)))
        → r ≡ given_rising last (committers_given n l s)
    committers_more r e h b f =
        f
        ∙ rw (to_end 1 n, to_end 1 l, to_end (get_or l 0 0) s)
        (sym (tested h ∙ rw (not-false t e, bytes_are (bytes_take (get_or l 0 0) (bytes_all s b)))))

-- ---- what is given is written: one committer more

-- none is not some
is_some_lem : {A : Type 0} (o : Option A) → o ≡ None → is_some o ≡ true → ⊥
is_some_lem o e h = false≢true (rw e at h)

-- one more is given only where the others are
with_some : (c : Committer) (o : Option (List Committer)) → is_some (with_first c o) ≡ true → is_some o ≡ true
with_some c None e = e
with_some c (Some cs) e = refl

-- the bytes of one more
collected : (c : Committer) (o : Option (List Committer)) → is_some o ≡ true
    → collect listed (unwrap_or (with_first c o) []) ≡ listed c ++ collect listed (unwrap_or o [])
collected c None e = absurd (false≢true e)
collected c (Some cs) e = refl

-- no numbers, no bytes
pub no_content : (n l s : List ℕ) → length n ≡ 0 → [] ≡ content_from n l s
unfolding content_from committers_given
no_content [] [] [] e = refl
no_content [] [] (b ∷ s) e = refl
no_content [] (k ∷ l) s e = refl
no_content (x ∷ n) l s e = absurd (omega arith)

module _ (n l s : List ℕ) (p : length n ≡ 0 → ⊥) (given : is_some (committers_given n l s) ≡ true) where
  -- a length is given with a first number
  pub length_given : length l ≡ 0 → ⊥
  length_given q = is_some_lem (committers_given n l s) (given_lacking n l s p q) given

  -- the names are as long as the first length
  pub name_given : get_or l 0 0 ≤ length s
  name_given = go (leb (get_or l 0 0) (length s)) refl
    where
      go : (b : Bool) → leb (get_or l 0 0) (length s) ≡ b → get_or l 0 0 ≤ length s
      go true h = leb-true (get_or l 0 0) (length s) h
      go false h = absurd (is_some_lem (committers_given n l s) (given_short n l s (leb-false (get_or l 0 0) (length s) h)) given)

  -- what is given is a first committer, and others
  split_given : committers_given n l s ≡ with_first (first n l s) (others n l s)
  split_given = given_more n l s p length_given name_given

  -- the others are given
  pub others_given : is_some (others n l s) ≡ true
  others_given = with_some (first n l s) (others n l s) (ap (λ (o : Option (List Committer)). is_some o) (sym split_given) ∙ given)

  -- the first committer stands before the others
  pub content_more : content_from n l s ≡ listed (first n l s) ++ content_from (drop 1 n) (drop 1 l) (drop (get_or l 0 0) s)
  unfolding content_from
  content_more =
      ap (λ (o : Option (List Committer)). collect listed (unwrap_or o [])) split_given
      ∙ collected (first n l s) (others n l s) others_given

-- ---- how many, and how long

-- one more is counted
counted : (c : Committer) (o : Option (List Committer)) → is_some o ≡ true
    → length (unwrap_or (with_first c o) []) ≡ suc (length (unwrap_or o []))
counted c None e = absurd (false≢true e)
counted c (Some cs) e = refl

-- no numbers, no names
pub none_left : (l s : List ℕ) → is_some (committers_given [] l s) ≡ true → s ≡ []
unfolding committers_given
none_left [] [] e = refl
none_left [] (b ∷ s) e = absurd (false≢true e)
none_left (k ∷ l) s e = absurd (false≢true e)

-- a list with a first element is not empty
no_first : (x : ℕ) (n : List ℕ) → length (x ∷ n) ≡ 0 → ⊥
no_first x n e = omega arith

-- as many committers as numbers
pub as_many : (n l s : List ℕ) → is_some (committers_given n l s) ≡ true → length (committers_from n l s) ≡ length n
unfolding committers_given
as_many [] [] [] g = refl
as_many [] [] (b ∷ s) g = refl
as_many [] (k ∷ l) s g = refl
as_many (x ∷ n) l s g =
    let p : length (x ∷ n) ≡ 0 → ⊥ = no_first x n in
    let o : is_some (others (x ∷ n) l s) ≡ true = others_given (x ∷ n) l s p g in
    ap (λ (o : Option (List Committer)). length (unwrap_or o [])) (split_given (x ∷ n) l s p g)
    ∙ counted (first (x ∷ n) l s) (others (x ∷ n) l s) o
    ∙ ap suc (as_many n (drop 1 l) (drop (get_or l 0 0) s) o)

-- 3 bytes for each number, and the names
pub length_content : (n l s : List ℕ) → is_some (committers_given n l s) ≡ true → length (content_from n l s) ≡ content_length n s
length_content [] l s g =
    let e : s ≡ [] = none_left l s g in
    let z : length s ≡ 0 = ap length e in
    let c : length (content_from [] l s) ≡ 0 = ap length (sym (no_content [] l s refl)) in omega arith
length_content (x ∷ n) l s g =
    let p : length (x ∷ n) ≡ 0 → ⊥ = no_first x n in
    let k : get_or l 0 0 ≤ length s = name_given (x ∷ n) l s p g in
    let i : length (content_from n (drop 1 l) (drop (get_or l 0 0) s)) ≡ 3 * length n + length (drop (get_or l 0 0) s) =
    length_content n (drop 1 l) (drop (get_or l 0 0) s) (others_given (x ∷ n) l s p g) in
    let a : length (listed (first (x ∷ n) l s)) ≡ 3 + length (take (get_or l 0 0) s) = listed_length (first (x ∷ n) l s) in
    let t : length (take (get_or l 0 0) s) ≡ get_or l 0 0 = length-take-le (get_or l 0 0) s k in
    ap length (content_more (x ∷ n) l s p g) ∙ rw length-append (omega (arith, length-drop (get_or l 0 0) s))

-- ---- names are short

-- committers in bounds are given
rising_some : (last : ℕ) (o : Option (List Committer)) → given_rising last o ≡ true → is_some o ≡ true
rising_some last None e = e
rising_some last (Some cs) e = refl

-- 32 bytes for each number at most
pub names_short : (n l s : List ℕ) (last : ℕ) → given_rising last (committers_given n l s) ≡ true → length s ≤ 32 * length n
names_short [] l s last h =
    let e : length s ≡ 0 = ap length (none_left l s (rising_some last (committers_given [] l s) h)) in omega arith
names_short (x ∷ n) l s last h =
    let p : length (x ∷ n) ≡ 0 → ⊥ = no_first x n in
    let g : is_some (committers_given (x ∷ n) l s) ≡ true = rising_some last (committers_given (x ∷ n) l s) h in
    let b : (follows last (first (x ∷ n) l s) ≡ true) × (given_rising x (others (x ∷ n) l s) ≡ true) =
    both_true (follows last (first (x ∷ n) l s)) (given_rising x (others (x ∷ n) l s))
    (sym (ap (given_rising last) (split_given (x ∷ n) l s p g) ∙ rising_with last (first (x ∷ n) l s) (others (x ∷ n) l s)) ∙ h) in
    let t : length (take (get_or l 0 0) s) ≡ get_or l 0 0 = length-take-le (get_or l 0 0) s (name_given (x ∷ n) l s p g) in
    let f : length (take (get_or l 0 0) s) ≤ 32 = (fine last (first (x ∷ n) l s) b.0).short in
    let i : length (drop (get_or l 0 0) s) ≤ 32 * length n = names_short n (drop 1 l) (drop (get_or l 0 0) s) x b.1 in
    omega (arith, length-drop (get_or l 0 0) s)

-- ---- what can be written

module _ (v log mode site : ℕ) where
  -- the tests of settings, where committers are given or not
  given_writable_lem : (o : Option (List Committer))
      → given_writable v (settings_given log mode site o)
      ≡ (numbers_fit v log mode site && (leb (length (unwrap_or o [])) 16 && given_rising 0 o))
  given_writable_lem None = sym (and-false (numbers_fit v log mode site))
  given_writable_lem (Some cs) = writable_by v log mode site cs

  module _ (n l s : List ℕ) where
    -- the numbers are counted for the committers
    many_is : leb (length (committers_from n l s)) 16 && given_rising 0 (committers_given n l s)
        ≡ (leb (length n) 16 && given_rising 0 (committers_given n l s))
    many_is = go (given_rising 0 (committers_given n l s)) refl
      where
        go : (b : Bool) → given_rising 0 (committers_given n l s) ≡ b
            → leb (length (committers_from n l s)) 16 && b ≡ (leb (length n) 16 && b)
        go true h =
            ap (λ (k : ℕ). leb k 16 && true) (as_many n l s (rising_some 0 (committers_given n l s) h))
        go false h = and-false (leb (length (committers_from n l s)) 16) ∙ sym (and-false (leb (length n) 16))

    -- the tests that the code makes, in its order
    pub tests : given_writable v (settings_given log mode site (committers_given n l s))
        ≡ (numbers_fit v log mode site && (leb (length n) 16 && given_rising 0 (committers_given n l s)))
    tests =
        given_writable_lem (committers_given n l s) ∙ ap (λ (b : Bool). numbers_fit v log mode site && b) many_is

    module _ (w : given_writable v (settings_given log mode site (committers_given n l s)) ≡ true) where
      -- the tests of the committers pass
      passed : (leb (length n) 16 ≡ true) × (given_rising 0 (committers_given n l s) ≡ true)
      passed =
          both_true (leb (length n) 16) (given_rising 0 (committers_given n l s))
          (both_true (numbers_fit v log mode site) (leb (length n) 16 && given_rising 0 (committers_given n l s)) (sym tests ∙ w)).1

      -- committers are given
      pub writable_given : is_some (committers_given n l s) ≡ true
      writable_given = rising_some 0 (committers_given n l s) passed.1

      -- their bytes are at most 560
      pub writable_small : content_length n s ≤ 560
      writable_small =
          let m : length n ≤ 16 = leb-true (length n) 16 passed.0 in
          let k : length s ≤ 32 * length n = names_short n l s 0 passed.1 in omega arith
