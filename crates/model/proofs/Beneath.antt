-- Names beneath names: what the tests say of every two, and where it goes over to other stores and rows. Assumes nothing.
use Rattle.std.specs.Prelude.{Option}
use Rattle.target.specs.declared.Target.{Target}
use mathlib.Core.Path.{◌≡◌, refl, sym, ap, ◌∙◌}
use mathlib.Core.Bool.{Bool, true, false, ◌&&◌, ◌||◌, not, false≢true, and-false}
use mathlib.Core.List.{List, [], ◌∷◌, ◌++◌}
use Prim.Native.Nat.{ℕ, ◌<◌, ◌≤◌}
use native.Mathlib.Omega.{arith}
use native.Mathlib.Decide.{dec_lt}
use lib.ListN.{length, get_or-eq_default}
use lib.Dec.{eqb, ltb}
use borrow.Author.Tests.{not-true, ltb-true, ltb-false}
use Rattle.word.proofs.Tests.{some_false, false_some}
use Rattle.transaction.specs.declared.PackedRefs.{PackedRefs}
use Rattle.transaction.specs.declared.Edit.{Edit}
use Rattle.transaction.specs.Change.{existing_in}
use Rattle.model.specs.Basic.{Below}
use Rattle.model.specs.Names.{begins, beneath}
use Rattle.model.specs.Store.{Store, no_entry, count, entry_at}
use Rattle.model.specs.Rows.{name_in, change_in, row_at, is_direct}
use Rattle.model.specs.Beneath.{is_loose, lies, loose_above, loose_beneath, would_write, will_write, meets_earlier, conflicts}
use Rattle.model.specs.Fine.{alone_loose, clear_row}

-- ---- tests

pub and_not : (a b : Bool) → (a ≡ true → b ≡ false) → a && b ≡ false
and_not true b h = h refl
and_not false b h = refl

pub not_and : (a b : Bool) → a && b ≡ false → a ≡ true → b ≡ false
not_and true b h e = h
not_and false b h e = absurd (false≢true e)

pub neither : (a b : Bool) → a || b ≡ false → (a ≡ false) × (b ≡ false)
neither true b h = absurd (false≢true (sym h))
neither false b h = (refl, h)

nor : {a b : Bool} → a ≡ false → b ≡ false → a || b ≡ false
nor p q = rw (p, q)

-- ---- no name lies beneath itself

begins_longer : (xs : List ℕ) (y : ℕ) (ys : List ℕ) → begins (xs ++ (y ∷ ys)) xs ≡ false
begins_longer [] y ys = refl
begins_longer (x ∷ xs) y ys = rw (begins_longer xs y ys) (and-false (eqb x x))

pub not_itself : (name : List ℕ) → beneath name name ≡ false
unfolding beneath
not_itself name = begins_longer name 47 []

-- ---- loose values

pub loose_in_lem : (s : Store) (n : ℕ) → is_loose s n ≡ true → n < count s
loose_in_lem s n h = go (dec_lt n (count s))
  where
    go : Dec (n < count s) → n < count s
    go (yes k) = k
    go (no k) =
        let e : entry_at s n ≡ no_entry = get_or-eq_default s.entries no_entry (omega arith) in
        absurd (false≢true (rw e at h))

-- no loose value beneath another
pub record Alone (s : Store) : Type 0 where
  pub alone : (n m : ℕ) → is_loose s n ≡ true → is_loose s m ≡ true → lies s n m ≡ false

module _ (s : Store) where
  pub above_not : (n : ℕ) → loose_above s n ≡ false → (m : ℕ) → is_loose s m ≡ true → lies s n m ≡ false
  unfolding loose_above
  above_not n h m l = not_and (is_loose s m) (lies s n m) (some_false (count s) (λ k. is_loose s k && lies s n k) h m (loose_in_lem s m l)) l

  pub not_above : (n : ℕ) → ((m : ℕ) → is_loose s m ≡ true → lies s n m ≡ false) → loose_above s n ≡ false
  unfolding loose_above
  not_above n h = false_some (count s) _ (λ m k. and_not (is_loose s m) (lies s n m) (h m))

  pub beneath_not : (n : ℕ) → loose_beneath s n ≡ false → (m : ℕ) → is_loose s m ≡ true → lies s m n ≡ false
  unfolding loose_beneath
  beneath_not n h m l = not_and (is_loose s m) (lies s m n) (some_false (count s) (λ k. is_loose s k && lies s k n) h m (loose_in_lem s m l)) l

  pub not_beneath : (n : ℕ) → ((m : ℕ) → is_loose s m ≡ true → lies s m n ≡ false) → loose_beneath s n ≡ false
  unfolding loose_beneath
  not_beneath n h = false_some (count s) _ (λ m k. and_not (is_loose s m) (lies s m n) (h m))

  pub alone_is : Below (count s) (alone_loose s) → Alone s
  unfolding alone_loose
  alone_is h = record {
    alone = λ n m p q. above_not n (not_and (is_loose s n) (loose_above s n) (not-true (is_loose s n && loose_above s n) (h n (loose_in_lem s n p))) p) m q;
  }

  pub is_alone : Alone s → Below (count s) (alone_loose s)
  unfolding alone_loose
  is_alone a n k = ap not (and_not (is_loose s n) (loose_above s n) (λ p. not_above n (λ m q. a.alone n m p q)))

-- ---- rows

abbrev pub number_at : List Edit → ℕ → ℕ
number_at rows i = (name_in (row_at rows i)).0

-- 25 does not refuse the row at place i, with this existing value
pub record ClearAt (s : Store) (mode : PackedRefs) (rows : List Edit) (i : ℕ) (x : Option Target) : Type 0 where
  pub above : (m : ℕ) → is_loose s m ≡ true → lies s (number_at rows i) m ≡ false
  pub beneath : would_write s mode (row_at rows i) x ≡ true → (m : ℕ) → is_loose s m ≡ true → lies s m (number_at rows i) ≡ false
  pub among : would_write s mode (row_at rows i) x ≡ true → (j : ℕ) → j < i → will_write s mode (row_at rows j) ≡ true
      → (lies s (number_at rows i) (number_at rows j) ≡ false) × (lies s (number_at rows j) (number_at rows i) ≡ false)

module _ (s : Store) (mode : PackedRefs) (rows : List Edit) (i : ℕ) (x : Option Target) where
  abbrev nested : ℕ → Bool
  nested j = lies s (number_at rows i) (number_at rows j) || lies s (number_at rows j) (number_at rows i)

  earlier_not : meets_earlier s mode rows i ≡ false → (j : ℕ) → j < i → will_write s mode (row_at rows j) ≡ true → nested j ≡ false
  unfolding meets_earlier
  earlier_not h j k w = not_and (will_write s mode (row_at rows j)) (nested j) (some_false i (λ l. will_write s mode (row_at rows l) && nested l) h j k) w

  not_earlier : ((j : ℕ) → j < i → will_write s mode (row_at rows j) ≡ true → nested j ≡ false) → meets_earlier s mode rows i ≡ false
  unfolding meets_earlier
  not_earlier h = false_some i _ (λ j k. and_not (will_write s mode (row_at rows j)) (nested j) (h j k))

  pub conflicts_not : conflicts s mode rows i x ≡ false → ClearAt s mode rows i x
  unfolding conflicts
  conflicts_not h = record {
    above = above_not s (number_at rows i) parts.0;
    beneath = λ w. beneath_not s (number_at rows i) (inner w).0;
    among = λ w j k v. neither _ _ (earlier_not (inner w).1 j k v);
  }
    where
      parts : (loose_above s (number_at rows i) ≡ false)
          × (would_write s mode (row_at rows i) x && (loose_beneath s (number_at rows i) || meets_earlier s mode rows i) ≡ false)
      parts = neither _ _ h

      inner : would_write s mode (row_at rows i) x ≡ true → (loose_beneath s (number_at rows i) ≡ false) × (meets_earlier s mode rows i ≡ false)
      inner w = neither _ _ (not_and (would_write s mode (row_at rows i) x) _ parts.1 w)

  pub not_conflicts : ClearAt s mode rows i x → conflicts s mode rows i x ≡ false
  unfolding conflicts
  not_conflicts c =
      nor (not_above s (number_at rows i) c.above)
      (and_not (would_write s mode (row_at rows i) x) _ (λ w.
      nor (not_beneath s (number_at rows i) (c.beneath w)) (not_earlier (λ j k v. nor (c.among w j k v).0 (c.among w j k v).1))))

-- of all rows, with the existing value read off each
pub record Clear (s : Store) (mode : PackedRefs) (rows : List Edit) : Type 0 where
  pub clear : (i : ℕ) → i < length rows → ClearAt s mode rows i (existing_in (change_in (row_at rows i)))

pub clear_is : (s : Store) (mode : PackedRefs) (rows : List Edit) → Below (length rows) (clear_row s mode rows) → Clear s mode rows
unfolding clear_row
clear_is s mode rows h = record { clear = λ i k. conflicts_not s mode rows i _ (not-true (conflicts s mode rows i (existing_in (change_in (row_at rows i)))) (h i k)) }

pub is_clear : (s : Store) (mode : PackedRefs) (rows : List Edit) → Clear s mode rows → Below (length rows) (clear_row s mode rows)
unfolding clear_row
is_clear s mode rows c i k = ap not (not_conflicts s mode rows i _ (c.clear i k))

-- of two rows that will write a loose value the later one was judged, so neither lies beneath the other
pub rows_apart : (s : Store) (mode : PackedRefs) (rows : List Edit) → Clear s mode rows → (i j : ℕ) → i < length rows → j < length rows
    → will_write s mode (row_at rows i) ≡ true → will_write s mode (row_at rows j) ≡ true → lies s (number_at rows i) (number_at rows j) ≡ false
rows_apart s mode rows c i j p q v w = go (ltb i j) refl (ltb j i) refl
  where
    go : (t : Bool) → ltb i j ≡ t → (u : Bool) → ltb j i ≡ u → lies s (number_at rows i) (number_at rows j) ≡ false
    go true e u d = ((c.clear j q).among w i (ltb-true i j e) v).1
    go false e true d = ((c.clear i p).among v j (ltb-true j i d) w).0
    go false e false d =
        let h : j ≤ i = ltb-false i j e in
        let g : i ≤ j = ltb-false j i d in
        let same : i ≡ j = omega arith in
        rw same (not_itself (entry_at s (number_at rows j)).name)

-- ---- a store in which no name more is loose, and the names of the other are the same

pub record Fewer (s t : Store) : Type 0 where
  pub name : (n : ℕ) → n < count s → (entry_at t n).name ≡ (entry_at s n).name
  pub loose : (n : ℕ) → is_loose t n ≡ true → is_loose s n ≡ true

module _ (s t : Store) (f : Fewer s t) where
  lies_moved : (n m : ℕ) → n < count s → m < count s → lies t n m ≡ lies s n m
  lies_moved n m p q = rw (f.name n p, f.name m q)

  in_first : (n : ℕ) → is_loose t n ≡ true → n < count s
  in_first n h = loose_in_lem s n (f.loose n h)

  pub alone_moved : Alone s → Alone t
  alone_moved a = record {
    alone = λ n m p q. lies_moved n m (in_first n p) (in_first m q) ∙ a.alone n m (f.loose n p) (f.loose m q);
  }

  would_moved : (mode : PackedRefs) (r : Edit) (x : Option Target) → (name_in r).0 < count s → would_write t mode r x ≡ would_write s mode r x
  unfolding would_write is_direct
  would_moved mode r x h = rw (f.name (name_in r).0 h)

  pub clear_moved : (mode : PackedRefs) (rows : List Edit) → ((i : ℕ) → i < length rows → number_at rows i < count s) → Clear s mode rows → Clear t mode rows
  clear_moved mode rows named c = record { clear = λ i k. at i k }
    where
      at : (i : ℕ) → i < length rows → ClearAt t mode rows i (existing_in (change_in (row_at rows i)))
      at i k = record {
        above = λ m l. lies_moved _ m (named i k) (in_first m l) ∙ here.above m (f.loose m l);
        beneath = λ w m l. lies_moved m _ (in_first m l) (named i k) ∙ here.beneath (was w) m (f.loose m l);
        among = λ w j h v.
            let inside : j < length rows = omega arith in
            let both : (lies s (number_at rows i) (number_at rows j) ≡ false) × (lies s (number_at rows j) (number_at rows i) ≡ false) =
            here.among (was w) j h (sym (would_moved mode (row_at rows j) _ (named j inside)) ∙ v) in
            (lies_moved _ _ (named i k) (named j inside) ∙ both.0, lies_moved _ _ (named j inside) (named i k) ∙ both.1);
      }
        where
          here : ClearAt s mode rows i (existing_in (change_in (row_at rows i)))
          here = c.clear i k

          was : would_write t mode (row_at rows i) (existing_in (change_in (row_at rows i))) ≡ true
              → would_write s mode (row_at rows i) (existing_in (change_in (row_at rows i))) ≡ true
          was w = sym (would_moved mode (row_at rows i) _ (named i k)) ∙ w

-- ---- other rows, of which the row at place i is asked the same, and those before it are the same

pub would_update : (s : Store) (mode : PackedRefs) (a b : Edit) (x : Option Target) → a.update ≡ b.update → would_write s mode a x ≡ would_write s mode b x
unfolding would_write is_direct
would_update s mode a b x e = rw e

module _ (s : Store) (mode : PackedRefs) (rows rows' : List Edit) (i : ℕ) (x x' : Option Target)
    (earlier : (j : ℕ) → j < i → (row_at rows' j).update ≡ (row_at rows j).update)
    (name : name_in (row_at rows' i) ≡ name_in (row_at rows i))
    (would : would_write s mode (row_at rows' i) x' ≡ would_write s mode (row_at rows i) x) where
  number_is : number_at rows' i ≡ number_at rows i
  number_is = ap (λ n. n.0) name

  earlier_is : (j : ℕ) → j < i → number_at rows' j ≡ number_at rows j
  earlier_is j h = ap (λ u. u.name.0) (earlier j h)

  will_is : (j : ℕ) → j < i → will_write s mode (row_at rows' j) ≡ will_write s mode (row_at rows j)
  will_is j h =
      would_update s mode (row_at rows' j) (row_at rows j) _ (earlier j h)
      ∙ ap (λ u. would_write s mode (row_at rows j) (existing_in u.change)) (earlier j h)

  pub clear_at_rows : ClearAt s mode rows i x → ClearAt s mode rows' i x'
  clear_at_rows c = record {
    above = λ m l. rw number_is (c.above m l);
    beneath = λ w m l. rw number_is (c.beneath (sym would ∙ w) m l);
    among = λ w j h v. rw (number_is, earlier_is j h) (c.among (sym would ∙ w) j h (sym (will_is j h) ∙ v));
  }
