-- The bytes of a name: each stands between `-` and `z`. So none is a space or a line feed, and each fits a byte. Assumes nothing.
use mathlib.Core.Path.{◌≡◌, refl, subst}
use mathlib.Core.Bool.{Bool, true, false, ◌&&◌, ◌||◌, not, cond}
use mathlib.Core.List.{List, [], ◌∷◌}
use Prim.Native.Nat.{ℕ, ◌≤◌}
use Prim.Native.Char.{Char, code}
use native.Mathlib.Omega.{arith}
use lib.ListN.{length, drop}
use lib.Dec.{eqb, leb, lit≤}
use borrow.Author.Tests.{eqb-true, leb-true}
use Rattle.word.proofs.Tests.{both_true}
use Rattle.model.specs.Basic.{text, all, is_empty}
use Rattle.model.specs.Names.{is_name, is_special, is_ref, is_component, is_component_byte, is_upper, between, is_char, begins, under, components, grow, ends_in, holds}
use Rattle.model.proofs.Places.{Each}

abbrev pub NameByte : ℕ → Type 0
NameByte b = (45 ≤ b) × (b ≤ 122)

pub either : {P : Type 0} (a b : Bool) → a || b ≡ true → (a ≡ true → P) → (b ≡ true → P) → P
either true b e f g = f refl
either false b e f g = g e

-- between two characters that are so, or one that is
ranged : (a z : Char) (b : ℕ) → 45 ≤ code a → code z ≤ 122 → between a z b ≡ true → NameByte b
ranged a z b h k e =
    let t : (leb (code a) b ≡ true) × (leb b (code z) ≡ true) = both_true (leb (code a) b) _ e in
    let l : code a ≤ b = leb-true (code a) b t.0 in
    let m : b ≤ code z = leb-true b (code z) t.1 in
    (omega arith, omega arith)

single : (c : Char) (b : ℕ) → 45 ≤ code c → code c ≤ 122 → is_char c b ≡ true → NameByte b
single c b h k e = let l : b ≡ code c = eqb-true b (code c) e in (omega arith, omega arith)

upper_byte : (b : ℕ) → is_upper b ≡ true → NameByte b
upper_byte b e = either (between "A" "Z" b) (is_char "_" b) e (ranged "A" "Z" b (lit≤ tt) (lit≤ tt)) (single "_" b (lit≤ tt) (lit≤ tt))

component_byte : (b : ℕ) → is_component_byte b ≡ true → NameByte b
component_byte b e =
    either _ _ e
    (λ e. either _ _ e
    (λ e. either _ _ e
    (λ e. either _ _ e
    (λ e. either _ _ e (ranged "A" "Z" b (lit≤ tt) (lit≤ tt)) (ranged "a" "z" b (lit≤ tt) (lit≤ tt)))
    (ranged "0" "9" b (lit≤ tt) (lit≤ tt)))
    (single "-" b (lit≤ tt) (lit≤ tt)))
    (single "_" b (lit≤ tt) (lit≤ tt)))
    (single "." b (lit≤ tt) (lit≤ tt))

all_bytes : (p : ℕ → Bool) → ((b : ℕ) → p b ≡ true → NameByte b) → (xs : List ℕ) → all p xs ≡ true → Each NameByte xs
all_bytes p f [] e = tt
all_bytes p f (x ∷ xs) e =
    let b : (p x ≡ true) × (all p xs ≡ true) = both_true (p x) (all p xs) e in (f x b.0, all_bytes p f xs b.1)

special_bytes : (n : List ℕ) → is_special n ≡ true → Each NameByte n
unfolding is_special
special_bytes [] e = tt
special_bytes (b ∷ bs) e =
    let h : (between "A" "Z" b ≡ true) × (all is_upper bs ≡ true) = both_true (between "A" "Z" b) (all is_upper bs) e in
    (ranged "A" "Z" b (lit≤ tt) (lit≤ tt) h.0, all_bytes is_upper upper_byte bs h.1)

-- what a prefix begins is of such bytes where the rest is
begun_bytes : (p n : List ℕ) → begins p n ≡ true → Each NameByte p → Each NameByte (drop (length p) n) → Each NameByte n
begun_bytes [] n e b t = t
begun_bytes (x ∷ p) [] e b t = tt
begun_bytes (x ∷ p) (y ∷ n) e b t =
    let q : (eqb x y ≡ true) × (begins p n ≡ true) = both_true (eqb x y) (begins p n) e in
    (subst NameByte (eqb-true x y q.0) b.0, begun_bytes p n q.1 b.1 t)

component_bytes : (c : List ℕ) → is_component c ≡ true → all is_component_byte c ≡ true
unfolding is_component
component_bytes c e =
    let a : ((not (is_empty c) && all is_component_byte c) && not (under "." c) ≡ true) × (not (ends_in ".lock" c) ≡ true) = both_true _ _ e in
    let b : ((not (is_empty c) && all is_component_byte c) ≡ true) × (not (under "." c) ≡ true) = both_true _ _ a.0 in
    (both_true (not (is_empty c)) _ b.0).1

each_component : (cs : List (List ℕ)) → all is_component cs ≡ true → all (all is_component_byte) cs ≡ true
each_component [] e = refl
each_component (c ∷ cs) e =
    let h : (is_component c ≡ true) × (all is_component cs ≡ true) = both_true (is_component c) (all is_component cs) e in
    rw (component_bytes c h.0) (each_component cs h.1)

grown : (b : ℕ) (cs : List (List ℕ)) → all (all is_component_byte) (grow b cs) ≡ true
    → (is_component_byte b ≡ true) × (all (all is_component_byte) cs ≡ true)
grown b [] e = ((both_true _ _ (both_true _ _ e).0).0, refl)
grown b (c ∷ cs) e =
    let h : ((is_component_byte b && all is_component_byte c) ≡ true) × (all (all is_component_byte) cs ≡ true) = both_true _ _ e in
    let k : (is_component_byte b ≡ true) × (all is_component_byte c ≡ true) = both_true _ _ h.0 in
    (k.0, rw k.1 h.1)

joined_bytes : (n : List ℕ) → all (all is_component_byte) (components n) ≡ true → Each NameByte n
joined_bytes [] e = tt
joined_bytes (b ∷ bs) e = go (joined_bytes bs) (is_char "/" b) refl e
  where
    go : (all (all is_component_byte) (components bs) ≡ true → Each NameByte bs) → (t : Bool) → is_char "/" b ≡ t
        → all (all is_component_byte) (cond t ([] ∷ components bs) (grow b (components bs))) ≡ true
        → Each NameByte (b ∷ bs)
    go f true p e = (single "/" b (lit≤ tt) (lit≤ tt) p, f e)
    go f false p e =
        let h : (is_component_byte b ≡ true) × (all (all is_component_byte) (components bs) ≡ true) = grown b (components bs) e in
        (component_byte b h.0, f h.1)

prefix_bytes : Each NameByte (text "refs/")
prefix_bytes = ((lit≤ tt, lit≤ tt), ((lit≤ tt, lit≤ tt), ((lit≤ tt, lit≤ tt), ((lit≤ tt, lit≤ tt), ((lit≤ tt, lit≤ tt), tt)))))

ref_bytes : (n : List ℕ) → is_ref n ≡ true → Each NameByte n
unfolding is_ref
ref_bytes n e =
    let a : (under "refs/" n && all is_component (components (drop 5 n)) && not (holds ".." n) ≡ true) × (not (ends_in "." n) ≡ true) = both_true _ _ e in
    let b : (under "refs/" n && all is_component (components (drop 5 n)) ≡ true) × (not (holds ".." n) ≡ true) = both_true _ _ a.0 in
    let h : (under "refs/" n ≡ true) × (all is_component (components (drop 5 n)) ≡ true) = both_true _ _ b.0 in
    begun_bytes (text "refs/") n h.0 prefix_bytes (joined_bytes (drop 5 n) (each_component (components (drop 5 n)) h.1))

-- a name has 1 to 64 bytes, each of them so
pub record Named (n : List ℕ) : Type 0 where
  pub full : 1 ≤ length n
  pub short : length n ≤ 64
  pub bytes : Each NameByte n

pub is_named : (n : List ℕ) → is_name n ≡ true → Named n
unfolding is_name
is_named n e =
    let h : ((leb 1 (length n) && leb (length n) 64) ≡ true) × ((is_special n || is_ref n) ≡ true) = both_true _ _ e in
    let k : (leb 1 (length n) ≡ true) × (leb (length n) 64 ≡ true) = both_true (leb 1 (length n)) _ h.0 in
    record {
      full = leb-true 1 (length n) k.0;
      short = leb-true (length n) 64 k.1;
      bytes = either (is_special n) (is_ref n) h.1 (special_bytes n) (ref_bytes n);
    }
