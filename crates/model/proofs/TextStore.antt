-- The table of a store that obeys the rules, loaded into that store again, leaves it as it is; and what loading leaves alone of any store.
-- Assumes nothing.
use Rattle.std.specs.Prelude.{Option, Some, None, Ok}
use mathlib.Core.Path.{◌≡◌, refl, sym, ap, subst, ◌∙◌}
use mathlib.Core.Bool.{Bool, true, false, cond, true≢false}
use mathlib.Core.List.{List, [], ◌∷◌, map}
use mathlib.Core.Logic.{◌⊎◌}
use mathlib.Core.Logic.◌⊎◌.{inl, inr}
use Prim.Native.Nat.{ℕ, zero, suc, ◌+◌, ◌≤◌, ◌<◌}
use native.Mathlib.Omega.{arith}
use lib.ListN.{length, get_or, length-map}
use borrow.Author.Tests.{not-true}
use Rattle.word.proofs.Tests.{both_true, every_at, same_list_true, same_list_refl}
use Rattle.target.specs.declared.ObjectNumber.{ObjectNumber}
use Rattle.model.specs.Names.{same_bytes, before, packable}
use Rattle.model.specs.Store.{Store, Entry, no_entry, count, entry_at, is_id, put_packed, with_entries}
use Rattle.model.specs.Fine.{Fine, entry_tests, fine_packed, fine_entry}
use Rattle.model.specs.Load.{number_from}
use Rattle.model.specs.PackedText.{Ref, insert, with_packed, sorted, packed_table, unpacked, ref_loaded_as, ref_loaded, loaded}
use Rattle.model.specs.Texts.{Aside}
use Rattle.model.proofs.Binds.{pass_is, pass_then}
use Rattle.model.proofs.Base.{mapped_at}
use Rattle.model.proofs.Places.{Each, each_weaken}
use Rattle.model.proofs.NameBytes.{is_named}
use Rattle.model.proofs.ByteOrder.{before_first}
use Rattle.model.proofs.TextLines.{Loadable, Chain}
use Rattle.model.proofs.TextTable.{Rising, OtherName, Distinct, each_insert, each_sorted, sorted_rises, put_ref, put_is, loaded_table}

-- ---- the entries of a store that obeys the rules

each_at : {A : Type 0} (P : A → Type 0) (d : A) (xs : List A) → ((i : ℕ) → i < length xs → P (get_or xs i d)) → Each P xs
each_at P d [] h = tt
each_at P d (x ∷ xs) h = (h 0 (omega arith), each_at P d xs (λ i k. h (suc i) (omega arith)))

each_both : {A : Type 0} (P Q R : A → Type 0) → ((a : A) → P a → Q a → R a) → (xs : List A) → Each P xs → Each Q xs → Each R xs
each_both P Q R f [] h k = tt
each_both P Q R f (x ∷ xs) h k = (f x h.0 k.0, each_both P Q R f xs h.1 k.1)

other_way : (a b : List ℕ) → same_bytes a b ≡ false → same_bytes b a ≡ false
other_way a b h = go (same_bytes b a) refl
  where
    go : (t : Bool) → same_bytes b a ≡ t → same_bytes b a ≡ false
    go true e = absurd (true≢false (sym (same_list_refl a) ∙ ap (same_bytes a) (sym (same_list_true b a e)) ∙ h))
    go false e = e

apart_distinct : (es : List Entry)
    → ((n : ℕ) → n < length es → (m : ℕ) → m < n → same_bytes (get_or es n no_entry).name (get_or es m no_entry).name ≡ false)
    → Distinct es
apart_distinct [] h = tt
apart_distinct (e ∷ es) h = (
  each_at (λ (x : Entry). same_bytes e.name x.name ≡ false) no_entry es
      (λ i k. other_way (get_or es i no_entry).name e.name (h (suc i) (omega arith) 0 (omega arith))),
  apart_distinct es (λ n k m l. h (suc n) (omega arith) (suc m) (omega arith)),
)

module _ (s : Store) (f : Fine s) where
  pub distinct : Distinct s.entries
  distinct = apart_distinct s.entries (λ n h m k. not-true _ (f.apart n h m k))

  loads : (e : Entry) (o : ObjectNumber) → fine_entry (count s) e ≡ true → e.packed ≡ Some o → Loadable (record { name = e.name; object = o.0 })
  unfolding fine_entry
  loads e o h q =
      let t : (i : ℕ) → get_or (entry_tests (count s) e) i true ≡ true = λ i. every_at (entry_tests (count s) e) i h in
      let p : fine_packed e.name (Some o) ≡ true = ap (fine_packed e.name) (sym q) ∙ t 2 in
      let b : (is_id o.0 ≡ true) × (packable e.name ≡ true) = both_true (is_id o.0) (packable e.name) p in
      record { name = t 0; id = b.0; packs = b.1 }

  pub table_loads : Each Loadable (packed_table s)
  unfolding packed_table
  table_loads = each_sorted Loadable (λ (e : Entry). fine_entry (count s) e ≡ true) loads s.entries (each_at (λ (e : Entry). fine_entry (count s) e ≡ true) no_entry s.entries f.entries)

  pub table_rises : Rising (packed_table s)
  unfolding packed_table
  table_rises = sorted_rises s.entries distinct

-- refs that rise and can be loaded are a chain
rising_chain : (last : List ℕ) (rs : List Ref) → Each (λ r. before last r.name ≡ true) rs → Rising rs → Each Loadable rs → Chain last rs
rising_chain last [] h r l = tt
rising_chain last (x ∷ xs) h r l = (l.0, h.0, rising_chain x.name xs r.0 r.1 l.1)

pub table_chain : (s : Store) → Fine s → Chain [] (packed_table s)
table_chain s f =
    rising_chain [] (packed_table s)
    (each_weaken (λ (r : Ref). before [] r.name ≡ true) Loadable (λ r h. first r h) (packed_table s) (table_loads s f))
    (table_rises s f)
    (table_loads s f)
  where
    full : (n : List ℕ) → 1 ≤ length n → n ≡ [] → ⊥
    full n l e = let k : length n ≡ 0 = ap length e in omega arith

    first : (r : Ref) → Loadable r → before [] r.name ≡ true
    first r h = before_first r.name (full r.name (is_named r.name h.name).full)

-- ---- the same store

-- entries of which some have lost their packed values
abbrev Under : List Entry → List Entry → Type 0
Under [] [] = Unit {0}
Under [] (e ∷ es) = ⊥
Under (x ∷ xs) [] = ⊥
Under (x ∷ xs) (e ∷ es) = ((x ≡ e) ⊎ (x ≡ put_packed None e)) × Under xs es

-- the first entry of that name has that object
abbrev From : Ref → List Entry → Type 0
From r [] = ⊥
From r (e ∷ es) =
    ((r.name ≡ e.name) × (e.packed ≡ Some (record { 0 = r.object }))) ⊎ ((same_bytes r.name e.name ≡ false) × From r es)

under_unpacked : (es : List Entry) → Under (map (put_packed None) es) es
under_unpacked [] = tt
under_unpacked (e ∷ es) = (inr refl, under_unpacked es)

under_name : (x e : Entry) → (x ≡ e) ⊎ (x ≡ put_packed None e) → x.name ≡ e.name
under_name x e (inl q) = ap (λ (y : Entry). y.name) q
under_name x e (inr q) = ap (λ (y : Entry). y.name) q

-- with its own object the entry is itself
restored : (x e : Entry) (v : Option ObjectNumber) → (x ≡ e) ⊎ (x ≡ put_packed None e) → e.packed ≡ v → put_packed v x ≡ e
restored x e v (inl q) p = ap (put_packed v) q ∙ ap (λ (w : Option ObjectNumber). put_packed w e) (sym p)
restored x e v (inr q) p = ap (put_packed v) q ∙ ap (λ (w : Option ObjectNumber). put_packed w e) (sym p)

under_put : (r : Ref) (xs es : List Entry) → Under xs es → From r es → Under (put_ref r xs) es
under_put r [] [] u f = absurd f
under_put r [] (e ∷ es) u f = absurd u
under_put r (x ∷ xs) [] u f = absurd u
under_put r (x ∷ xs) (e ∷ es) (u, us) (inl (n, v)) =
    let q : same_bytes r.name x.name ≡ true = ap (same_bytes r.name) (under_name x e u ∙ sym n) ∙ same_list_refl r.name in
    rw q (inl (restored x e (Some (record { 0 = r.object })) u v), us)
under_put r (x ∷ xs) (e ∷ es) (u, us) (inr (d, f)) =
    let q : same_bytes r.name x.name ≡ false = ap (same_bytes r.name) (under_name x e u) ∙ d in
    rw q (u, under_put r xs es us f)

under_known : (r : Ref) (xs es : List Entry) (i : ℕ) → Under xs es → From r es → (n : ℕ) × (number_from i r.name xs ≡ Some n)
under_known r [] [] i u f = absurd f
under_known r [] (e ∷ es) i u f = absurd u
under_known r (x ∷ xs) [] i u f = absurd u
under_known r (x ∷ xs) (e ∷ es) i (u, us) (inl (n, v)) =
    (i, rw (ap (same_bytes r.name) (under_name x e u ∙ sym n) ∙ same_list_refl r.name))
under_known r (x ∷ xs) (e ∷ es) i (u, us) (inr (d, f)) =
    let q : same_bytes r.name x.name ≡ false = ap (same_bytes r.name) (under_name x e u) ∙ d in
    rw q (under_known r xs es (i + 1) us f)

-- a known name is never refused
known_loads : (r : Ref) (t : Store) (n : ℕ) → number_from 0 r.name t.entries ≡ Some n → (u : Store) × (ref_loaded r t ≡ Ok u)
unfolding ref_loaded
known_loads r t n e = (_, ap (ref_loaded_as r t) e)

abbrev Loads : List Ref → Store → List Entry → Type 0
Loads rs t es = (u : Store) × (loaded rs t ≡ Ok u) × (u ≡ with_entries t u.entries) × Under u.entries es

loaded_under : (rs : List Ref) (t : Store) (es : List Entry) → Each (λ r. From r es) rs → Under t.entries es → Loads rs t es
unfolding loaded
loaded_under [] t es h u = (t, refl, refl, u)
loaded_under (r ∷ rs) t es h u =
    let k = under_known r t.entries es 0 u h.0 in
    let l = known_loads r t k.0 k.1 in
    let p : l.0 ≡ with_entries t (put_ref r t.entries) = put_is r t l.0 l.1 in
    let v : Under l.0.entries es = subst (λ (x : Store). Under x.entries es) (sym p) (under_put r t.entries es u h.0) in
    let m : Loads rs l.0 es = loaded_under rs l.0 es h.1 v in
    (m.0, rw l.1 m.1, m.2 ∙ ap (λ (x : Store). with_entries x m.0.entries) p, m.3)

length_insert : (r : Ref) (xs : List Ref) → length (insert r xs) ≡ suc (length xs)
length_insert r [] = refl
length_insert r (x ∷ xs) = go (length_insert r xs) (before r.name x.name)
  where
    go : length (insert r xs) ≡ suc (length xs) → (t : Bool) → length (cond t (r ∷ x ∷ xs) (x ∷ insert r xs)) ≡ suc (suc (length xs))
    go rec true = refl
    go rec false = ap suc rec

-- how many refs there are with one entry more
pub length_packed : (name : List ℕ) (v : Option ObjectNumber) (rs : List Ref) → (length rs ≤ length (with_packed name v rs)) × (length (with_packed name v rs) ≤ suc (length rs))
length_packed name None rs = (omega arith, omega arith)
length_packed name (Some o) rs =
    let l : length (insert (record { name = name; object = o.0 }) rs) ≡ suc (length rs) = length_insert (record { name = name; object = o.0 }) rs in
    (omega arith, omega arith)

under_fewer : (xs es : List Entry) → Under xs es → length (sorted xs) ≤ length (sorted es)
under_fewer [] [] u = omega arith
under_fewer [] (e ∷ es) u = absurd u
under_fewer (x ∷ xs) [] u = absurd u
under_fewer (x ∷ xs) (e ∷ es) (inl q, us) = rw q (wide e.packed (under_fewer xs es us))
  where
    wide : (v : Option ObjectNumber) → length (sorted xs) ≤ length (sorted es) → length (with_packed e.name v (sorted xs)) ≤ length (with_packed e.name v (sorted es))
    wide None h = h
    wide (Some o) h =
        let a = length_insert (record { name = e.name; object = o.0 }) (sorted xs) in
        let b = length_insert (record { name = e.name; object = o.0 }) (sorted es) in
        omega arith
under_fewer (x ∷ xs) (e ∷ es) (inr q, us) =
    let a : length (sorted xs) ≤ length (sorted es) = under_fewer xs es us in
    let b : length (sorted es) ≤ length (sorted (e ∷ es)) = (length_packed e.name e.packed (sorted es)).0 in
    rw q (omega arith)

-- with as many refs as there were, none is lost
under_same : (xs es : List Entry) → Under xs es → length (sorted es) ≤ length (sorted xs) → xs ≡ es
under_same [] [] u h = refl
under_same [] (e ∷ es) u h = absurd u
under_same (x ∷ xs) [] u h = absurd u
under_same (x ∷ xs) (e ∷ es) (u, us) h = go (under_same xs es us) e.packed refl u
  where
    fewer : length (sorted xs) ≤ length (sorted es)
    fewer = under_fewer xs es us

    joins : (length (sorted es) ≤ length (sorted xs) → xs ≡ es) → x ≡ e → length (sorted es) ≤ length (sorted xs) → x ∷ xs ≡ e ∷ es
    joins rec q k = ap (λ (y : Entry). y ∷ xs) q ∙ ap (λ (ys : List Entry). e ∷ ys) (rec k)

    enough : (v : Option ObjectNumber) → length (with_packed e.name v (sorted es)) ≤ length (with_packed e.name v (sorted xs)) → length (sorted es) ≤ length (sorted xs)
    enough None k = k
    enough (Some o) k =
        let a = length_insert (record { name = e.name; object = o.0 }) (sorted xs) in
        let b = length_insert (record { name = e.name; object = o.0 }) (sorted es) in
        omega arith

    go : (length (sorted es) ≤ length (sorted xs) → xs ≡ es) → (v : Option ObjectNumber) → e.packed ≡ v → (x ≡ e) ⊎ (x ≡ put_packed None e) → x ∷ xs ≡ e ∷ es
    go rec v p (inl q) = joins rec q (enough e.packed (rw q at h))
    go rec None p (inr q) = joins rec (q ∙ ap (λ (w : Option ObjectNumber). put_packed w e) (sym p)) (rw (q, p) at h)
    go rec (Some o) p (inr q) =
        let a : length (with_packed e.name (Some o) (sorted es)) ≤ length (sorted xs) = rw (q, p) at h in
        let b = length_insert (record { name = e.name; object = o.0 }) (sorted es) in
        absurd (omega (arith, fewer))

sorted_from : (es : List Entry) → Distinct es → Each (λ r. From r es) (sorted es)
sorted_from [] d = tt
sorted_from (e ∷ es) d = go (later (sorted_from es d.1)) e.packed refl
  where
    later : Each (λ r. From r es) (sorted es) → Each (λ r. From r (e ∷ es)) (sorted es)
    later rec =
        each_both (OtherName e.name) (λ r. From r es) (λ r. From r (e ∷ es)) (λ r o f. inr (other_way e.name r.name o, f)) (sorted es)
        (each_sorted (OtherName e.name) (λ (x : Entry). same_bytes e.name x.name ≡ false) (λ x o h q. h) es d.0)
        rec

    go : Each (λ r. From r (e ∷ es)) (sorted es) → (v : Option ObjectNumber) → e.packed ≡ v → Each (λ r. From r (e ∷ es)) (with_packed e.name v (sorted es))
    go rest None q = rest
    go rest (Some o) q = each_insert (λ r. From r (e ∷ es)) (record { name = e.name; object = o.0 }) (sorted es) (inl (refl, q)) rest

pub loaded_same : (s : Store) → Fine s → loaded (packed_table s) (unpacked s) ≡ Ok s
unfolding packed_table unpacked
loaded_same s f =
    let m : Loads (sorted s.entries) (unpacked s) s.entries =
    loaded_under (sorted s.entries) (unpacked s) s.entries (sorted_from s.entries (distinct s f)) (under_unpacked s.entries) in
    let t : sorted m.0.entries ≡ sorted s.entries = loaded_table (sorted s.entries) [] s m.0 (table_chain s f) m.1 in
    let n : length (sorted m.0.entries) ≡ length (sorted s.entries) = ap length t in
    let e : m.0.entries ≡ s.entries = under_same m.0.entries s.entries m.3 (omega arith) in
    m.1 ∙ ap Ok (m.2 ∙ ap (with_entries s) e)

-- ---- what loading leaves alone

module _ {A : Type 0} (g : Entry → A) (r : Ref) (same : (e : Entry) → g (put_packed (Some (record { 0 = r.object })) e) ≡ g e) where
  put_keeps : (es : List Entry) (n : ℕ) → n < length es → g (get_or (put_ref r es) n no_entry) ≡ g (get_or es n no_entry)
  put_keeps [] n h = absurd (omega arith)
  put_keeps (e ∷ es) n h = go (put_keeps es) (same_bytes r.name e.name) n h
    where
      go : ((n : ℕ) → n < length es → g (get_or (put_ref r es) n no_entry) ≡ g (get_or es n no_entry)) → (t : Bool) (n : ℕ) → n < suc (length es)
          → g (get_or (cond t (put_packed (Some (record { 0 = r.object })) e ∷ es) (e ∷ put_ref r es)) n no_entry) ≡ g (get_or (e ∷ es) n no_entry)
      go rec true zero h = same e
      go rec true (suc n) h = refl
      go rec false zero h = refl
      go rec false (suc n) h = rec n (omega arith)

put_longer : (r : Ref) (es : List Entry) → length es ≤ length (put_ref r es)
put_longer r [] = omega arith
put_longer r (e ∷ es) = go (same_bytes r.name e.name) (put_longer r es)
  where
    go : (t : Bool) → length es ≤ length (put_ref r es) → suc (length es) ≤ length (cond t (put_packed (Some (record { 0 = r.object })) e ∷ es) (e ∷ put_ref r es))
    go true h = omega arith
    go false h = omega arith

put_aside : (r : Ref) (s : Store) → Aside s (with_entries s (put_ref r s.entries))
put_aside r s = record {
  grown = put_longer r s.entries;
  name = put_keeps (λ (e : Entry). e.name) r (λ e. refl) s.entries;
  loose = put_keeps (λ (e : Entry). e.loose) r (λ e. refl) s.entries;
  lock = put_keeps (λ (e : Entry). e.lock) r (λ e. refl) s.entries;
  packed_lock = refl;
  lines = refl;
  setting = refl;
  prepared = refl;
}

pub aside_then : (s t u : Store) → Aside s t → Aside t u → Aside s u
aside_then s t u a b =
    let g : count s ≤ count t = a.grown in
    let k : count t ≤ count u = b.grown in
    record {
      grown = omega arith;
      name = λ n h. b.name n (omega arith) ∙ a.name n h;
      loose = λ n h. b.loose n (omega arith) ∙ a.loose n h;
      lock = λ n h. b.lock n (omega arith) ∙ a.lock n h;
      packed_lock = b.packed_lock ∙ a.packed_lock;
      lines = b.lines ∙ a.lines;
      setting = b.setting ∙ a.setting;
      prepared = b.prepared ∙ a.prepared;
    }

pub loaded_aside : (rs : List Ref) (s u : Store) → loaded rs s ≡ Ok u → Aside s u
unfolding loaded
loaded_aside [] s u e = subst (Aside s) (pass_is e) (record { grown = omega arith; name = λ n h. refl; loose = λ n h. refl; lock = λ n h. refl; packed_lock = refl; lines = refl; setting = refl; prepared = refl })
loaded_aside (r ∷ rs) s u e =
    pass_then (ref_loaded r s) (loaded rs) u e (λ t p q.
    aside_then s t u (subst (Aside s) (sym (put_is r s t p)) (put_aside r s)) (loaded_aside rs t u q))

pub unpacked_aside : (s : Store) → Aside s (unpacked s)
unfolding unpacked
unpacked_aside s =
    let at : (n : ℕ) → get_or (map (put_packed None) s.entries) n no_entry ≡ put_packed None (entry_at s n) = λ n. mapped_at (put_packed None) refl n s.entries in
    let l : length (map (put_packed None) s.entries) ≡ length s.entries = length-map s.entries _ in
    record {
      grown = omega arith;
      name = λ n h. ap (λ (e : Entry). e.name) (at n);
      loose = λ n h. ap (λ (e : Entry). e.loose) (at n);
      lock = λ n h. ap (λ (e : Entry). e.lock) (at n);
      packed_lock = refl;
      lines = refl;
      setting = refl;
      prepared = refl;
    }
