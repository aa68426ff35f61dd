-- What the proofs below the calls cite, over variables: numbers told apart, and the turns and ends of the loops. Assumes nothing.
use Rattle.std.specs.Prelude.{Option, Some, None}
use mathlib.Core.Path.{◌≡◌, refl, sym, ap, ap₂, ◌∙◌}
use mathlib.Core.Bool.{Bool, true, false, not, ◌&&◌, cond, true≢false, false≢true}
use mathlib.Core.List.{List, [], ◌∷◌, map}
use Prim.Native.Nat.{ℕ, zero, suc, ◌+◌, ◌-◌, ◌<◌, ◌≤◌, ◌^◌}
use native.Mathlib.Numerals.{add-one}
use native.Mathlib.Omega.{arith}
use lib.ListN.{length, get_or, drop, length-set, drop_of_length-le, get_or-eq_default}
use lib.Seq.{drop-cons}
use lib.Dec.{eqb, leb-suc-suc, eqb-suc-zero}
use borrow.Author.Tests.{lt-ltb, le-ltb, ne_eqb, eqb-true, eqb-false, not-true, not-false}
use mir.Val.{Fits}
use mir.Syntax.{w64}
use Rattle.target.specs.declared.NameNumber.{NameNumber}
use Rattle.target.specs.declared.ObjectNumber.{ObjectNumber}
use Rattle.target.specs.declared.Target.{Target}
use Rattle.target.specs.declared.Found.{Found}
use Rattle.target.specs.declared.Found.TheVariants as found
use Rattle.target.specs.Found.{value_in}
use Rattle.target.specs.Fields.{object_of}
use Rattle.model.specs.declared.Loose.{Loose}
use Rattle.model.specs.declared.Loose.TheVariants as loose
use Rattle.model.specs.Read.{packed_seen, found_in, found_of, value_of}
use Rattle.model.specs.declared.Lock.{Lock}
use Rattle.model.specs.declared.Line.{Line}
use Rattle.model.specs.Basic.{select}
use Rattle.model.specs.Names.{same_bytes}
use Rattle.model.specs.Store.{Store, Entry, no_entry, no_line, count, is_id, is_of, lines_of, put_lock, change_at, change_entry, with_entries, with_packed_lock, with_prepared, entry_of}
use Rattle.model.specs.Load.{number_from}
use Rattle.model.specs.Commit.{freed, released}
use Rattle.region.specs.Region.{view, Laid, Became}
use Rattle.steps.specs.Steps.{packed_by, free_names, line_among, left_after}

-- one element more
next : {A : Type 0} (xs : List A) (d : A) (i n : ℕ) → n ≡ length xs → i < n → drop i xs ≡ get_or xs i d ∷ drop (i + 1) xs
next xs d i n e l = let b : i < length xs = rw e at l in rw add-one (drop-cons xs i d b)

-- the name at a place below the count is registered
pub at_below : (m : NameNumber) (n k : ℕ) (s : Store) → m ≡ record { 0 = n } → n < k → k ≡ count s → m.0 < count s
at_below m n k s e l f = rw e (omega arith)

-- ---- the number of a name

module _ (name : List ℕ) (xs : List Entry) (i n : ℕ) (z : Option ℕ) (h : number_from i name (drop i xs) ≡ z) (e : n ≡ length xs) where
  module _ (at : NameNumber) (b : List ℕ) (r : Bool) (l : i < n) (ea : at ≡ record { 0 = i }) (eb : b ≡ (get_or xs at.0 no_entry).name) (er : r ≡ same_bytes name b) where
    same_here : same_bytes name (get_or xs i no_entry).name ≡ r
    same_here = ap (λ (a : NameNumber). same_bytes name (get_or xs a.0 no_entry).name) (sym ea) ∙ ap (same_bytes name) (sym eb) ∙ sym er

    pub number_here : r ≡ true → Some at.0 ≡ z
    number_here t = ap (λ (a : NameNumber). Some a.0) ea ∙ (rw (next xs no_entry i n e l, same_here ∙ t) at h)

    pub number_more : r ≡ false → number_from (i + 1) name (drop (i + 1) xs) ≡ z
    number_more t = rw (next xs no_entry i n e l, same_here ∙ t) at h

  pub number_end : n ≤ i → None ≡ z
  number_end l =
      let b : length xs ≤ i = rw e at l in
      rw (drop_of_length-le xs b) at h

-- ---- loads

-- a number of 64 bits that is not 0 is an object's
is_id_lem : (x : ℕ) → Fits w64 x → (x ≡ 0 → ⊥) → is_id x ≡ true
is_id_lem x f h =
    let p : x < 2 ^ 64 = f.fits in
    let q : 0 < x = omega arith in
    rw (lt-ltb 0 x q, lt-ltb x (2 ^ 64) p)

module _ (b : Bool) (k x : ℕ) where
  pub packed_beside_none : k ≡ 0 → (x ≡ 0 → ⊥) → None ≡ packed_by b k x
  packed_beside_none e h = rw (e, ne_eqb x 0 h)

  pub packed_none : k ≡ 0 → x ≡ 0 → Some None ≡ packed_by b k x
  packed_none e h = rw (e, h)

  -- o is the object of the number, unless that is the null id
  module _ (o : Option ObjectNumber) (eo : o ≡ object_of x) (f : Fits w64 x) where
    pub packed_null : k ≡ 1 → o ≡ None → None ≡ packed_by b k x
    packed_null e h = go (eqb x 0) refl
      where
        go : (t : Bool) → eqb x 0 ≡ t → None ≡ packed_by b k x
        go true p = rw (e, eqb-true x 0 p)
        go false p = absurd (let q : o ≡ Some (record { 0 = x }) = rw p at eo in let z : ◌≡◌ {A = ℕ} 0 1 = cc in omega arith)

    -- an object that is there has that number, and it is not 0
    there : (i : ObjectNumber) → o ≡ Some i → (i ≡ record { 0 = x }) × (is_id x ≡ true)
    there i h = go (eqb x 0) refl
      where
        go : (t : Bool) → eqb x 0 ≡ t → (i ≡ record { 0 = x }) × (is_id x ≡ true)
        go true p = absurd (let q : o ≡ None = rw p at eo in let z : ◌≡◌ {A = ℕ} 0 1 = cc in omega arith)
        go false p = let q : o ≡ Some (record { 0 = x }) = rw p at eo in (cc, is_id_lem x f (eqb-false x 0 p))

    pub packed_unpackable : (i : ObjectNumber) → k ≡ 1 → o ≡ Some i → not b ≡ true → None ≡ packed_by b k x
    packed_unpackable i e h t = rw (e, (there i h).1, not-true b t)

    pub packed_object : (i : ObjectNumber) → k ≡ 1 → o ≡ Some i → not b ≡ false → Some (Some i) ≡ packed_by b k x
    packed_object i e h t = rw (e, (there i h).0, (there i h).1, not-false b t)

pub packed_other : (b : Bool) (k x : ℕ) → (k ≡ 0 → ⊥) → (k ≡ 1 → ⊥) → None ≡ packed_by b k x
packed_other b zero x p q = absurd (p refl)
packed_other b (suc zero) x p q = absurd (q refl)
packed_other b (suc (suc k)) x p q = refl

-- ---- locks freed, name by name

abbrev free : Entry → Entry
free e = put_lock (freed e.lock) e

pub count_freed : (k : ℕ) (s : Store) → count (free_names k s) ≡ count s
unfolding free_names
count_freed zero s = refl
count_freed (suc k) s = length-set (free_names k s).entries k _ ∙ count_freed k s

pub freed_none : (r : List ℕ) → Laid r → Became r (free_names 0 (view r))
unfolding free_names
freed_none r h = record { laid = h; seen = refl }

pub freed_more : (k : ℕ) (n : NameNumber) (r r' : List ℕ) (s : Store) (a l : Lock) → Became r (free_names k s) → n ≡ record { 0 = k }
    → a ≡ (entry_of (view r) n).lock → l ≡ freed a
    → Became r' (change_entry (put_lock l) n.0 (view r)) → Became r' (free_names (k + 1) s)
unfolding free_names
freed_more k n r r' s a l h en ea el g =
    record {
      laid = g.laid;
      seen =
          g.seen
          ∙ ap (λ (l : Lock). change_entry (put_lock l) n.0 (view r)) (el ∙ ap freed ea)
          ∙ ap (λ (m : NameNumber). change_entry free m.0 (view r)) en
          ∙ ap (change_entry free k) h.seen
          ∙ (rw add-one);
    }

pub freed_below : (k n : ℕ) (m : NameNumber) (r : List ℕ) (s : Store) → Became r (free_names k s) → m ≡ record { 0 = k } → k < n → n ≡ count s → m.0 < count (view r)
freed_below k n m r s h e l g = rw (e, h.seen, count_freed) (omega arith)

pub freed_end : (k n : ℕ) (r : List ℕ) (s : Store) → Became r (free_names k s) → k ≤ n → n ≤ k → n ≡ count s → Became r (free_names (count s) s)
freed_end k n r s h p q g = let e : k ≡ count s = omega arith in rw e at h

-- the first k entries freed are every entry freed, where there are k
unfoldable free_first : ℕ → List Entry → List Entry
free_first zero es = es
free_first (suc k) es = change_at free k (free_first k es)

first_cons : (k : ℕ) (e : Entry) (es : List Entry) → free_first (suc k) (e ∷ es) ≡ free e ∷ free_first k es
unfolding free_first
first_cons zero e es = refl
first_cons (suc k) e es = ap (change_at free (suc k)) (first_cons k e es)

first_all : (es : List Entry) → free_first (length es) es ≡ map free es
unfolding free_first
first_all [] = refl
first_all (e ∷ es) = first_cons (length es) e es ∙ ap (λ (ys : List Entry). free e ∷ ys) (first_all es)

freed_are : (k : ℕ) (s : Store) → free_names k s ≡ with_entries s (free_first k s.entries)
unfolding free_names free_first
freed_are zero s = refl
freed_are (suc k) s = ap (change_entry free k) (freed_are k s)

pub released_is : (r₀ r₁ r₂ r₃ : List ℕ) (a l : Lock) → Became r₁ (free_names (count (view r₀)) (view r₀)) → a ≡ (view r₁).packed_lock → l ≡ freed a
    → Became r₂ (with_packed_lock (view r₁) l) → Became r₃ (with_prepared (view r₂) None) → Became r₃ (released (view r₀))
unfolding released
released_is r₀ r₁ r₂ r₃ a l h₁ ea el h₂ h₃ =
    let s : Store = view r₀ in
    let e₁ : view r₁ ≡ with_entries s (map free s.entries) =
    h₁.seen ∙ freed_are (count s) s ∙ ap (with_entries s) (first_all s.entries) in
    record {
      laid = h₃.laid;
      seen =
          h₃.seen
          ∙ ap (λ (t : Store). with_prepared t None) (h₂.seen ∙ ap (with_packed_lock (view r₁)) (el ∙ ap freed ea))
          ∙ ap (λ (t : Store). with_prepared (with_packed_lock t (freed t.packed_lock)) None) e₁;
    }

-- ---- what a name reads

pub unseen_is : (seen : Bool) (p : Option ObjectNumber) → not seen ≡ true → None ≡ packed_seen seen p
unseen_is seen p t = rw (not-true seen t)

pub seen_is : (seen : Bool) (p : Option ObjectNumber) → not seen ≡ false → p ≡ packed_seen seen p
seen_is seen p t = rw (not-false seen t)

module _ (l : Loose) (p : Option ObjectNumber) where
  pub in_loose : (t : Target) → l ≡ loose.Target t → found.Loose t ≡ found_in l p
  in_loose t e = rw e

  pub in_packed : (o : ObjectNumber) → l ≡ loose.None → p ≡ Some o → found.Packed o ≡ found_in l p
  in_packed o e f = rw (e, f)

  pub in_behind : (o : ObjectNumber) → l ≡ loose.Broken → p ≡ Some o → found.PackedBehindBroken o ≡ found_in l p
  in_behind o e f = rw (e, f)

none_found : (seen : Bool) → found_of seen no_entry ≡ found.Absent
none_found true = refl
none_found false = refl

module _ (s : Store) (seen : Bool) (name : NameNumber) where
  pub found_none : (n m : ℕ) → n ≡ name.0 → m ≡ count s → m ≤ n → found.Absent ≡ found_of seen (entry_of s name)
  found_none n m en e l =
      let b : count s ≤ name.0 = omega arith in
      sym (ap (found_of seen) (get_or-eq_default s.entries no_entry b) ∙ none_found seen)

  pub found_at : (p q : Option ObjectNumber) (l : Loose) (r : Found) → p ≡ (entry_of s name).packed → q ≡ packed_seen seen p → l ≡ (entry_of s name).loose
      → r ≡ found_in l q → r ≡ found_of seen (entry_of s name)
  found_at p q l r ep eq el er = er ∙ ap₂ found_in el (eq ∙ ap (packed_seen seen) ep)

  pub value_is : (x : Found) (v : Option Target) → x ≡ found_of seen (entry_of s name) → v ≡ value_in x → v ≡ value_of seen (entry_of s name)
  value_is x v ex ev = ev ∙ ap value_in ex

-- ---- the line of a name at a place

one_here : (r : Bool) (left : ℕ) (x : Line) (ls : List Line) (z : Option Line) → line_among left (cond r (x ∷ ls) ls) ≡ z → (r && eqb left 0) ≡ true → Some x ≡ z
one_here true zero x ls z h t = let q : 0 < suc (length ls) = omega arith in rw (lt-ltb 0 (suc (length ls)) q) at h
one_here true (suc k) x ls z h t = absurd (false≢true (sym (eqb-suc-zero k) ∙ t))
one_here false left x ls z h t = absurd (false≢true t)

one_more : (r : Bool) (left : ℕ) (x : Line) (ls : List Line) (z : Option Line) → line_among left (cond r (x ∷ ls) ls) ≡ z → (r && eqb left 0) ≡ false
    → line_among (left_after r left) ls ≡ z
one_more true zero x ls z h t = absurd (true≢false t)
one_more true (suc k) x ls z h t =
    let q : suc k - 1 ≡ k = omega arith in
    rw q (rw (leb-suc-suc (suc k) (length ls)) at h)
one_more false left x ls z h t = h

pub line_start : (s : Store) (n : NameNumber) (place : ℕ) → line_among place (select (is_of n) s.lines) ≡ line_among place (lines_of s n)
unfolding lines_of
line_start s n place = refl

module _ (p : Line → Bool) (xs : List Line) (i n left : ℕ) (z : Option Line) (h : line_among left (select p (drop i xs)) ≡ z) (e : n ≡ length xs) where
  module _ (x : Line) (r here : Bool) (l : i < n) (ex : x ≡ get_or xs i no_line) (er : r ≡ p x) (eh : here ≡ (r && eqb left 0)) where
    passed : line_among left (cond r (get_or xs i no_line ∷ select p (drop (i + 1) xs)) (select p (drop (i + 1) xs))) ≡ z
    passed =
        let f : p (get_or xs i no_line) ≡ r = ap p (sym ex) ∙ sym er in
        rw (next xs no_line i n e l, f) at h

    pub line_here : here ≡ true → Some x ≡ z
    line_here t = ap Some ex ∙ one_here r left _ _ z passed (sym eh ∙ t)

    pub line_more : here ≡ false → (left' : ℕ) → left' ≡ left_after r left → line_among left' (select p (drop (i + 1) xs)) ≡ z
    line_more t left' el = rw el (one_more r left _ _ z passed (sym eh ∙ t))

  pub line_end : n ≤ i → None ≡ z
  line_end l =
      let b : length xs ≤ i = rw e at l in
      let q : 0 ≤ left = omega arith in
      rw (drop_of_length-le xs b, le-ltb left 0 q) at h

pub left_same : (same : Bool) (left : ℕ) → not same ≡ true → left ≡ left_after same left
left_same same left t = rw (not-true same t)

pub left_none : (same : Bool) (left : ℕ) → not same ≡ false → left ≡ 0 → 0 ≡ left_after same left
left_none same left t e = rw (not-false same t, e)

pub left_less : (same : Bool) (left : ℕ) → not same ≡ false → left - 1 ≡ left_after same left
left_less same left t = rw (not-false same t)

pub here_first : (same : Bool) (left : ℕ) → same ≡ true → eqb left 0 ≡ (same && eqb left 0)
here_first same left t = rw t
