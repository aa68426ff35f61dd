-- An entry by its bytes: where reading it stops, and what is read. Assumes nothing.
use Rattle.std.specs.Prelude.{Option, Some, None}
use mathlib.Core.Path.{◌≡◌, refl, sym, ap, ap₂, ◌∙◌}
use mathlib.Core.Bool.{Bool, true, false, ◌&&◌, cond}
use mathlib.Core.List.{List, [], ◌∷◌}
use Prim.Native.Nat.{ℕ, zero, suc, ◌+◌, ◌-◌, ◌≤◌, ◌<◌}
use native.Mathlib.Omega.{arith}
use lib.ListN.{length, take, drop, length-drop}
use lib.Seq.{length-take-le, take-nil, drop-drop}
use lib.Dec.{eqb}
use borrow.Author.Tests.{eqb-true, eq-eqb, ne_eqb, le-leb, lt-leb}
use Rattle.word.specs.Be.{cut, val, val_on}
use Rattle.word.proofs.Cut.{length_cut}
use Rattle.word.proofs.Tests.{both_true}
use Rattle.model.specs.EditList.{◌>>=◌}
use Rattle.model.proofs.Binds.{none_some, some_is, some_then}
use Rattle.settings.specs.Format.{Split, Number, within, split, tagged, entry_in, numbered, number_in}
use Rattle.settings.proofs.Splits.{split_at, split_past, split_some}
use Rattle.settings.proofs.Entries.{tagged_back}
use Rattle.reader.specs.Reading.{size_in, value_in}

-- one byte as a number
pub byte : (b : ℕ) → val (b ∷ []) ≡ b
unfolding val val_on
byte b = omega arith

-- ---- an entry whose length of the rest is n

-- behind the two bytes of it
pub behind_size : (tag a b : ℕ) (r : List ℕ)
    → entry_in tag (a ∷ b ∷ r) ≡ (split (val (a ∷ b ∷ [])) r >>= λ rest. tagged tag rest.front rest.behind)
unfolding entry_in
behind_size tag a b r = rw (split_at 2 (a ∷ b ∷ r) (omega arith))

-- with its tag, and k bytes of content
pub with_tag : (tag a b t k : ℕ) (r : List ℕ) → val (a ∷ b ∷ []) ≡ suc k → k ≤ length r
    → entry_in tag (a ∷ b ∷ t ∷ r) ≡ cond (eqb t tag) (Some (record { front = take k r; behind = drop k r })) None
with_tag tag a b t k r e h =
    behind_size tag a b (t ∷ r) ∙ rw (e, split_at (suc k) (t ∷ r) (omega arith))

-- no content can have so many bytes
past_end : (tag n : ℕ) (r : List ℕ) → length r < n → (split n r >>= λ rest. tagged tag rest.front rest.behind) ≡ None
past_end tag n r h = rw (split_past n r h)

no_tag : (tag : ℕ) (r : List ℕ) → (split 0 r >>= λ rest. tagged tag rest.front rest.behind) ≡ None
no_tag tag r = rw (split_at 0 r (omega arith))

pub content_short : (tag : ℕ) (r : List ℕ) → length r < 3 → None ≡ size_in (entry_in tag r)
unfolding entry_in split
content_short tag [] h = refl
content_short tag (a ∷ []) h = refl
content_short tag (a ∷ b ∷ []) h = ap size_in (sym (behind_size tag a b [] ∙ go (val (a ∷ b ∷ []))))
  where
    go : (n : ℕ) → (split n [] >>= λ rest. tagged tag rest.front rest.behind) ≡ None
    go zero = no_tag tag []
    go (suc n) = past_end tag (suc n) [] (omega arith)
content_short tag (a ∷ b ∷ t ∷ r) h = absurd (omega arith)

module _ (tag n : ℕ) where
  pub content_none : (r : List ℕ) → 3 ≤ length r → n ≡ val (cut 0 2 r) → n ≡ 0 → None ≡ size_in (entry_in tag r)
  content_none [] l e h = absurd (omega arith)
  content_none (a ∷ []) l e h = absurd (omega arith)
  content_none (a ∷ b ∷ r) l e h =
      let z : val (a ∷ b ∷ []) ≡ 0 = sym e ∙ h in
      let q : entry_in tag (a ∷ b ∷ r) ≡ None = behind_size tag a b r ∙ rw z (no_tag tag r) in
      ap size_in (sym q)

  pub content_past : (r : List ℕ) → 3 ≤ length r → n ≡ val (cut 0 2 r) → length r - 2 < n → None ≡ size_in (entry_in tag r)
  content_past [] l e h = absurd (omega arith)
  content_past (a ∷ []) l e h = absurd (omega arith)
  content_past (a ∷ b ∷ r) l e h =
      let q : entry_in tag (a ∷ b ∷ r) ≡ None =
      behind_size tag a b r ∙ past_end tag (val (a ∷ b ∷ [])) r (omega arith) in
      ap size_in (sym q)

  module _ (t : ℕ) (z : n ≡ 0 → ⊥) where
    whole : (r : List ℕ) → 3 ≤ length r → n ≡ val (cut 0 2 r) → n ≤ length r - 2 → t ≡ val (cut 2 1 r)
        → size_in (entry_in tag r) ≡ cond (eqb t tag) (Some (n - 1)) None
    whole [] l e h f = absurd (omega arith)
    whole (a ∷ []) l e h f = absurd (omega arith)
    whole (a ∷ b ∷ []) l e h f = absurd (omega arith)
    whole (a ∷ b ∷ u ∷ r) l e h f =
        let k : n - 1 ≤ length r = omega arith in
        let s : val (a ∷ b ∷ []) ≡ suc (n - 1) = sym e ∙ omega arith in
        ap size_in (with_tag tag a b u (n - 1) r s k)
        ∙ go (eqb u tag) k
        ∙ ap (λ (x : ℕ). cond (eqb x tag) (Some (n - 1)) None) (sym (f ∙ byte u))
      where
        go : (q : Bool) → n - 1 ≤ length r
            → size_in (cond q (Some (record { front = take (n - 1) r; behind = drop (n - 1) r })) None) ≡ cond q (Some (n - 1)) None
        go true k = ap (λ (x : ℕ). Some x) (length-take-le (n - 1) r k)
        go false k = refl

    pub content_other : (r : List ℕ) → 3 ≤ length r → n ≡ val (cut 0 2 r) → n ≤ length r - 2 → t ≡ val (cut 2 1 r) → (t ≡ tag → ⊥)
        → None ≡ size_in (entry_in tag r)
    content_other r l e h f g = sym (whole r l e h f ∙ rw (ne_eqb t tag g))

    pub content_is : (r : List ℕ) → 3 ≤ length r → n ≡ val (cut 0 2 r) → n ≤ length r - 2 → t ≡ val (cut 2 1 r) → t ≡ tag
        → Some (n - 1) ≡ size_in (entry_in tag r)
    content_is r l e h f g = sym (whole r l e h f ∙ rw (eq-eqb t tag g))

-- ---- what an entry that was read is, by places

pub record Stands (r : List ℕ) (e : Split) : Type 0 where
  pub room : 3 + length e.front ≤ length r
  pub front : e.front ≡ cut 3 (length e.front) r
  pub behind : e.behind ≡ drop (3 + length e.front) r

-- the first element taken from the front of a list
drop_first : (k : ℕ) (l : List ℕ) → drop 1 (take (suc k) l) ≡ take k (drop 1 l)
drop_first k [] = sym (take-nil k)
drop_first k (x ∷ l) = refl

stands_from : (r : List ℕ) (n : ℕ) (e : Split) → 2 ≤ length r → n ≤ length (drop 2 r) → length (take n (drop 2 r)) ≡ suc (length e.front)
    → e.front ≡ drop 1 (take n (drop 2 r)) → e.behind ≡ drop n (drop 2 r) → Stands r e
stands_from r n e l h s f b =
    let k = length e.front in
    let w : n ≡ suc k = sym (length-take-le n (drop 2 r) h) ∙ s in
    let d : length (drop 2 r) ≡ length r - 2 = length-drop 2 r in
    let m : 2 + n ≡ 3 + k = omega arith in
    record {
      room = omega arith;
      front =
          f
          ∙ ap (λ (n : ℕ). drop 1 (take n (drop 2 r))) w
          ∙ drop_first k (drop 2 r)
          ∙ ap (take k) (drop-drop 1 2 r);
      behind = b ∙ drop-drop n 2 r ∙ ap (λ (n : ℕ). drop n r) m;
    }

pub entry_stands : (tag : ℕ) (r : List ℕ) (e : Split) → entry_in tag r ≡ Some e → Stands r e
unfolding entry_in
entry_stands tag r e h =
    some_then (split 2 r) _ e h λ size p h₁.
    some_then (split (val size.front) size.behind) _ e h₁ λ rest q h₂.
    let a = split_some 2 r size p in
    let b = split_some (val size.front) size.behind rest q in
    let t = tagged_back tag rest.front rest.behind e h₂ in
    let d : size.behind ≡ drop 2 r = a.2 in
    let n = val size.front in
    stands_from r n e a.0 (rw d at b.0)
    (ap (λ (l : List ℕ). length (take n l)) (sym d) ∙ ap length (sym b.1 ∙ sym t.0))
    (ap (drop 1) (t.0 ∙ b.1) ∙ ap (λ (l : List ℕ). drop 1 (take n l)) d)
    (t.1 ∙ b.2 ∙ ap (drop n) d)

-- by the length of its content, which is all that the code keeps
pub content_stands : (tag : ℕ) (r : List ℕ) (o : Option ℕ) (k : ℕ) → o ≡ size_in (entry_in tag r) → o ≡ Some k
    → (3 + k ≤ length r) × (entry_in tag r ≡ Some (record { front = cut 3 k r; behind = drop (3 + k) r }))
content_stands tag r o k e h = go (entry_in tag r) refl (sym (h) ∙ e)
  where
    go : (w : Option Split) → entry_in tag r ≡ w → Some k ≡ size_in w
        → (3 + k ≤ length r) × (w ≡ Some (record { front = cut 3 k r; behind = drop (3 + k) r }))
    go None p q = absurd (none_some (sym q))
    go (Some x) p q =
        let s = entry_stands tag r x p in
        let w : length x.front ≡ k = some_is (sym q) in
        let f : x.front ≡ cut 3 k r = s.front ∙ ap (λ (n : ℕ). cut 3 n r) w in
        let b : x.behind ≡ drop (3 + k) r = s.behind ∙ ap (λ (n : ℕ). drop (3 + n) r) w in
        (omega (arith, s.room), ap₂ (λ (f b : List ℕ). Some (record { front = f; behind = b })) f b)

-- ---- an entry whose content is a number

module _ (tag w least most : ℕ) (r : List ℕ) (o : Option ℕ) (e : o ≡ size_in (entry_in tag r)) where
  pub number_none : o ≡ None → None ≡ value_in (number_in tag w least most r)
  unfolding number_in
  number_none h = go (entry_in tag r) (sym (h) ∙ e)
    where
      go : (x : Option Split) → None ≡ size_in x
          → None ≡ value_in (x >>= λ e. numbered (eqb (length e.front) w && within least most (val e.front)) e)
      go None q = refl
      go (Some x) q = absurd (none_some q)

  module _ (k : ℕ) (h : o ≡ Some k) where
    -- what is tested of it
    number_tests : number_in tag w least most r
        ≡ numbered (eqb k w && within least most (val (cut 3 k r))) (record { front = cut 3 k r; behind = drop (3 + k) r })
    unfolding number_in
    number_tests =
        let s = content_stands tag r o k e h in
        rw s.1
        (ap (λ (n : ℕ). numbered (eqb n w && within least most (val (cut 3 k r))) (record { front = cut 3 k r; behind = drop (3 + k) r }))
        (length_cut 3 k r s.0))

    pub number_other : (k ≡ w → ⊥) → None ≡ value_in (number_in tag w least most r)
    number_other q =
        sym (ap value_in number_tests
        ∙ ap (λ (t : Bool). value_in (numbered (t && within least most (val (cut 3 k r))) (record { front = cut 3 k r; behind = drop (3 + k) r })))
        (ne_eqb k w q))

    pub number_room : k ≡ w → 3 + w ≤ length r
    number_room q = let s = (content_stands tag r o k e h).0 in omega arith

    module _ (x : ℕ) (q : k ≡ w) (f : x ≡ val (cut 3 w r)) where
      tested : value_in (number_in tag w least most r) ≡ cond (within least most x) (Some x) None
      tested =
          ap value_in number_tests
          ∙ ap (λ (t : Bool). value_in (numbered (t && within least most (val (cut 3 k r))) found)) (eq-eqb k w q)
          ∙ cases (within least most (val (cut 3 k r)))
          ∙ ap (λ (y : ℕ). cond (within least most y) (Some y) None) (ap (λ (n : ℕ). val (cut 3 n r)) q ∙ sym f)
        where
          found : Split
          found = record { front = cut 3 k r; behind = drop (3 + k) r }

          cases : (t : Bool) → value_in (numbered t found) ≡ cond t (Some (val (cut 3 k r))) None
          cases true = refl
          cases false = refl

      pub number_below : x < least → None ≡ value_in (number_in tag w least most r)
      number_below g = sym (tested ∙ rw (lt-leb least x g))

      pub number_above : least ≤ x → most < x → None ≡ value_in (number_in tag w least most r)
      number_above g j = sym (tested ∙ rw (le-leb least x g, lt-leb x most j))

      pub number_is : least ≤ x → x ≤ most → Some x ≡ value_in (number_in tag w least most r)
      number_is g j = sym (tested ∙ rw (le-leb least x g, le-leb x most j))

-- what such an entry is, by places
pub number_behind : (tag w least most : ℕ) (r : List ℕ) (n : Number) → number_in tag w least most r ≡ Some n
    → (3 + w ≤ length r) × (n.behind ≡ drop (3 + w) r)
unfolding number_in
number_behind tag w least most r n h =
    some_then (entry_in tag r) _ n h λ e p q.
    let s = entry_stands tag r e p in
    let t = passed (eqb (length e.front) w && within least most (val e.front)) e q in
    let l : length e.front ≡ w =
    eqb-true (length e.front) w (both_true (eqb (length e.front) w) (within least most (val e.front)) t.0).0 in
    (omega (arith, s.room), t.1 ∙ s.behind ∙ ap (λ (n : ℕ). drop (3 + n) r) l)
  where
    passed : (t : Bool) (e : Split) → numbered t e ≡ Some n → (t ≡ true) × (n.behind ≡ e.behind)
    passed true e q = (refl, ap (λ (n : Number). n.behind) (sym (some_is q)))
    passed false e q = absurd (none_some q)

-- all that the code keeps of it is the number
pub number_stands : (tag w least most : ℕ) (r : List ℕ) (o : Option ℕ) (x : ℕ) → o ≡ value_in (number_in tag w least most r)
    → o ≡ Some x → (3 + w ≤ length r) × (number_in tag w least most r ≡ Some (record { value = x; behind = drop (3 + w) r }))
number_stands tag w least most r o x e h = go (number_in tag w least most r) refl (sym (h) ∙ e)
  where
    go : (y : Option Number) → number_in tag w least most r ≡ y → Some x ≡ value_in y
        → (3 + w ≤ length r) × (y ≡ Some (record { value = x; behind = drop (3 + w) r }))
    go None p q = absurd (none_some (sym q))
    go (Some n) p q =
        let b = number_behind tag w least most r n p in
        (b.0, ap₂ (λ (v : ℕ) (b : List ℕ). Some (record { value = v; behind = b })) (some_is (sym q)) b.1)

-- a part that such entries may stand in
pub number_room_at : (tag w least most : ℕ) (r : List ℕ) (o : Option ℕ) (x : ℕ) → o ≡ value_in (number_in tag w least most r)
    → o ≡ Some x → 3 + w ≤ length r
number_room_at tag w least most r o x e h = (number_stands tag w least most r o x e h).0
