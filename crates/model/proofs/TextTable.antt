-- The sorted table: it rises, and refs that rise, loaded into a store without packed values, are its table. Assumes nothing.
use Rattle.std.specs.Prelude.{Option, Some, None, Ok}
use mathlib.Core.Path.{◌≡◌, refl, sym, ap, subst, ◌∙◌}
use mathlib.Core.Bool.{Bool, true, false, cond, true≢false}
use mathlib.Core.List.{List, [], ◌∷◌, ◌++◌, map, append_assoc, append-nil}
use Prim.Native.Nat.{ℕ, suc, ◌+◌, ◌<◌}
use native.Mathlib.Omega.{arith}
use lib.ListN.{length, get_or}
use lib.Dec.{leb}
use Rattle.word.proofs.Tests.{same_list_true}
use Rattle.target.specs.declared.ObjectNumber.{ObjectNumber}
use Rattle.model.specs.Names.{same_bytes, before}
use Rattle.model.specs.Store.{Store, Entry, no_entry, count, put_packed, change_at, with_entries}
use Rattle.model.specs.Load.{number_from, new_entry}
use Rattle.model.specs.PackedText.{Ref, insert, with_packed, sorted, packed_table, unpacked, packed_as, ref_loaded_as, ref_loaded, loaded}
use Rattle.model.proofs.Binds.{pass_is, refuse_pass, none_some, some_is, pass_then}
use Rattle.model.proofs.Places.{Each, each_append, each_weaken}
use Rattle.model.proofs.TextLines.{Chain}
use Rattle.model.proofs.ByteOrder.{before_itself, before_trans, before_not_after, before_or_after}

-- ---- a ref among refs

pub each_insert : (P : Ref → Type 0) (r : Ref) (xs : List Ref) → P r → Each P xs → Each P (insert r xs)
each_insert P r [] p h = (p, tt)
each_insert P r (x ∷ xs) p h = go (each_insert P r xs p h.1) (before r.name x.name)
  where
    go : Each P (insert r xs) → (t : Bool) → Each P (cond t (r ∷ x ∷ xs) (x ∷ insert r xs))
    go rec true = (p, h)
    go rec false = (h.0, rec)

insert_each : (P : Ref → Type 0) (r : Ref) (xs : List Ref) → Each P (insert r xs) → P r × Each P xs
insert_each P r [] h = (h.0, tt)
insert_each P r (x ∷ xs) h = go (insert_each P r xs) (before r.name x.name) h
  where
    go : (Each P (insert r xs) → P r × Each P xs) → (t : Bool) → Each P (cond t (r ∷ x ∷ xs) (x ∷ insert r xs)) → P r × Each P (x ∷ xs)
    go rec true h = (h.0, h.1)
    go rec false h = let q : P r × Each P xs = rec h.1 in (q.0, (h.0, q.1))

-- the name of x stands before that of r
abbrev pub Before : Ref → Ref → Type 0
Before r x = before x.name r.name ≡ true

-- a ref behind all others comes last, and the others are sorted before it
insert_last : (r : Ref) (xs : List Ref) → Each (Before r) xs → insert r xs ≡ xs ++ (r ∷ [])
insert_last r [] h = refl
insert_last r (x ∷ xs) h =
    rw (before_not_after x.name r.name h.0) (ap (λ (l : List Ref). x ∷ l) (insert_last r xs h.1))

insert_before : (a r : Ref) (xs : List Ref) → Before r a → insert a (xs ++ (r ∷ [])) ≡ insert a xs ++ (r ∷ [])
insert_before a r [] h = rw h
insert_before a r (x ∷ xs) h = go (insert_before a r xs h) (before a.name x.name)
  where
    go : insert a (xs ++ (r ∷ [])) ≡ insert a xs ++ (r ∷ []) → (t : Bool) → cond t (a ∷ x ∷ (xs ++ (r ∷ []))) (x ∷ insert a (xs ++ (r ∷ []))) ≡ cond t (a ∷ x ∷ xs) (x ∷ insert a xs) ++ (r ∷ [])
    go rec true = refl
    go rec false = ap (λ (l : List Ref). x ∷ l) rec

-- ---- the table rises

abbrev pub Rising : List Ref → Type 0
Rising [] = Unit {0}
Rising (r ∷ rs) = Each (λ x. before r.name x.name ≡ true) rs × Rising rs

abbrev pub OtherName : List ℕ → Ref → Type 0
OtherName n x = same_bytes n x.name ≡ false

insert_rises : (r : Ref) (xs : List Ref) → Each (OtherName r.name) xs → Rising xs → Rising (insert r xs)
insert_rises r [] d h = (tt, tt)
insert_rises r (x ∷ xs) d h = go (insert_rises r xs d.1 h.1) (before r.name x.name) refl
  where
    go : Rising (insert r xs) → (t : Bool) → before r.name x.name ≡ t → Rising (cond t (r ∷ x ∷ xs) (x ∷ insert r xs))
    go rec true e = (
      (
        e,
        each_weaken (λ (y : Ref). before r.name y.name ≡ true) (λ (y : Ref). before x.name y.name ≡ true)
            (λ y q. before_trans r.name x.name y.name e q) xs h.0,
      ),
      h,
    )
    go rec false e = (
      each_insert (λ (y : Ref). before x.name y.name ≡ true) r xs (before_or_after r.name x.name d.0 e) h.0,
      rec,
    )

-- entries of which no two have one name
abbrev pub Distinct : List Entry → Type 0
Distinct [] = Unit {0}
Distinct (e ∷ es) = Each (λ (x : Entry). same_bytes e.name x.name ≡ false) es × Distinct es

-- what holds of every entry, as of the ref that it has, holds of every ref
pub each_sorted : (P : Ref → Type 0) (Q : Entry → Type 0)
    → ((e : Entry) (o : ObjectNumber) → Q e → e.packed ≡ Some o → P (record { name = e.name; object = o.0 }))
    → (es : List Entry) → Each Q es → Each P (sorted es)
each_sorted P Q f [] h = tt
each_sorted P Q f (e ∷ es) h = go (each_sorted P Q f es h.1) e.packed refl
  where
    go : Each P (sorted es) → (v : Option ObjectNumber) → e.packed ≡ v → Each P (with_packed e.name v (sorted es))
    go rec None q = rec
    go rec (Some o) q = each_insert P (record { name = e.name; object = o.0 }) (sorted es) (f e o h.0 q) rec

pub sorted_rises : (es : List Entry) → Distinct es → Rising (sorted es)
sorted_rises [] d = tt
sorted_rises (e ∷ es) d = go (sorted_rises es d.1) e.packed
  where
    go : Rising (sorted es) → (v : Option ObjectNumber) → Rising (with_packed e.name v (sorted es))
    go rec None = rec
    go rec (Some o) =
        insert_rises (record { name = e.name; object = o.0 }) (sorted es)
        (each_sorted (OtherName e.name) (λ (x : Entry). same_bytes e.name x.name ≡ false) (λ x o h q. h) es d.0)
        rec

-- ---- a ref loaded, entry by entry

abbrev given : Ref → Entry → Entry
given r e = put_packed (Some (record { 0 = r.object })) e

-- the first entry of that name gets the object, and a new name comes last
abbrev pub put_ref : Ref → List Entry → List Entry
put_ref r [] = given r (new_entry r.name) ∷ []
put_ref r (e ∷ es) = cond (same_bytes r.name e.name) (given r e ∷ es) (e ∷ put_ref r es)

-- a name that is found, k entries behind the first
pub record Found (r : Ref) (es : List Entry) (i n : ℕ) : Type 0 where
  pub place : ℕ
  pub at : n ≡ i + place
  pub near : place < length es
  pub name : (get_or es place no_entry).name ≡ r.name
  pub put : change_at (given r) place es ≡ put_ref r es

pub number_found : (r : Ref) (es : List Entry) (i n : ℕ) → number_from i r.name es ≡ Some n → Found r es i n
number_found r [] i n e = absurd (none_some e)
number_found r (x ∷ xs) i n e = go (number_found r xs (i + 1) n) (same_bytes r.name x.name) refl e
  where
    go : (number_from (i + 1) r.name xs ≡ Some n → Found r xs (i + 1) n) → (t : Bool) → same_bytes r.name x.name ≡ t → cond t (Some i) (number_from (i + 1) r.name xs) ≡ Some n → Found r (x ∷ xs) i n
    go rec true q e =
        let z : i ≡ n = some_is e in
        record {
          place = 0;
          at = omega arith;
          near = omega arith;
          name = sym (same_list_true r.name x.name q);
          put = rw q;
        }
    go rec false q e =
        let f : Found r xs (i + 1) n = rec e in
        let a : n ≡ i + 1 + f.place = f.at in
        let b : f.place < length xs = f.near in
        record {
          place = suc f.place;
          at = omega arith;
          near = omega arith;
          name = f.name;
          put = rw q (ap (λ (l : List Entry). x ∷ l) f.put);
        }

number_new : (r : Ref) (es : List Entry) (i : ℕ) → number_from i r.name es ≡ None
    → change_at (given r) (length es) (es ++ (new_entry r.name ∷ [])) ≡ put_ref r es
number_new r [] i e = refl
number_new r (x ∷ xs) i e = go (number_new r xs (i + 1)) (same_bytes r.name x.name) refl e
  where
    go : (number_from (i + 1) r.name xs ≡ None → change_at (given r) (length xs) (xs ++ (new_entry r.name ∷ [])) ≡ put_ref r xs) → (t : Bool) → same_bytes r.name x.name ≡ t → cond t (Some i) (number_from (i + 1) r.name xs) ≡ None
        → change_at (given r) (suc (length xs)) (x ∷ (xs ++ (new_entry r.name ∷ []))) ≡ put_ref r (x ∷ xs)
    go rec true q e = absurd (none_some (sym e))
    go rec false q e = rw q (ap (λ (l : List Entry). x ∷ l) (rec e))

-- what loading comes to
pub put_is : (r : Ref) (s t : Store) → ref_loaded r s ≡ Ok t → t ≡ with_entries s (put_ref r s.entries)
unfolding ref_loaded
put_is r s t e = go (number_from 0 r.name s.entries) refl e
  where
    go : (o : Option ℕ) → number_from 0 r.name s.entries ≡ o → ref_loaded_as r s o ≡ Ok t → t ≡ with_entries s (put_ref r s.entries)
    go (Some n) q e =
        let f : Found r s.entries 0 n = number_found r s.entries 0 n q in
        let a : n ≡ 0 + f.place = f.at in
        let b : n ≡ f.place = omega arith in
        sym (pass_is e) ∙ ap (λ (k : ℕ). with_entries s (change_at (given r) k s.entries)) b ∙ ap (with_entries s) f.put
    go None q e = new (leb 256 (count s)) refl e
      where
        new : (t₁ : Bool) → leb 256 (count s) ≡ t₁ → ref_loaded_as r s None ≡ Ok t → t ≡ with_entries s (put_ref r s.entries)
        new true p e = absurd (refuse_pass (rw p at e))
        new false p e = let f : Ok (packed_as r (count s) (with_entries s (s.entries ++ (new_entry r.name ∷ [])))) ≡ Ok t = rw p at e in
            sym (pass_is f) ∙ ap (with_entries s) (number_new r s.entries 0 q)

-- ---- refs that rise, loaded behind those that are there

put_sorted : (r : Ref) (es : List Entry) → Each (Before r) (sorted es) → sorted (put_ref r es) ≡ sorted es ++ (r ∷ [])
put_sorted r [] h = refl
put_sorted r (e ∷ es) h = go (put_sorted r es) e.packed refl (same_bytes r.name e.name) refl h
  where
    go : (Each (Before r) (sorted es) → sorted (put_ref r es) ≡ sorted es ++ (r ∷ [])) → (v : Option ObjectNumber) → e.packed ≡ v → (t : Bool)
        → same_bytes r.name e.name ≡ t → Each (Before r) (with_packed e.name v (sorted es))
        → sorted (cond t (given r e ∷ es) (e ∷ put_ref r es)) ≡ with_packed e.name v (sorted es) ++ (r ∷ [])
    go rec None q true p h =
        ap (λ (n : List ℕ). insert (record { name = n; object = r.object }) (sorted es)) (sym (same_list_true r.name e.name p))
        ∙ insert_last r (sorted es) h
    go rec None q false p h = ap (λ (v : Option ObjectNumber). with_packed e.name v (sorted (put_ref r es))) q ∙ rec h
    go rec (Some o) q true p h =
        let a = insert_each (Before r) (record { name = e.name; object = o.0 }) (sorted es) h in
        absurd (true≢false (sym a.0 ∙ ap (λ (n : List ℕ). before n r.name) (sym (same_list_true r.name e.name p)) ∙ before_itself r.name))
    go rec (Some o) q false p h =
        let a = insert_each (Before r) (record { name = e.name; object = o.0 }) (sorted es) h in
        ap (λ (v : Option ObjectNumber). with_packed e.name v (sorted (put_ref r es))) q
        ∙ ap (insert (record { name = e.name; object = o.0 })) (rec a.1)
        ∙ insert_before (record { name = e.name; object = o.0 }) r (sorted es) a.0

-- all of the first stand before the first of the second
abbrev Ahead : List Ref → List Ref → Type 0
Ahead xs [] = Unit {0}
Ahead xs (r ∷ rs) = Each (Before r) xs

next_ahead : (xs : List Ref) (r : Ref) (rs : List Ref) → Each (Before r) xs → Chain r.name rs → Ahead (xs ++ (r ∷ [])) rs
next_ahead xs r [] h c = tt
next_ahead xs r (r' ∷ rs) h c =
    each_append (Before r') xs (r ∷ [])
    (each_weaken (Before r') (Before r) (λ x q. before_trans x.name r.name r'.name q c.1) xs h)
    (c.1, tt)

pub loaded_sorted : (rs : List Ref) (last : List ℕ) (s u : Store) → Chain last rs → Ahead (sorted s.entries) rs → loaded rs s ≡ Ok u
    → sorted u.entries ≡ sorted s.entries ++ rs
unfolding loaded
loaded_sorted [] last s u c h e = ap (λ (t : Store). sorted t.entries) (sym (pass_is e)) ∙ sym (append-nil (sorted s.entries))
loaded_sorted (r ∷ rs) last s u c h e =
    pass_then (ref_loaded r s) (loaded rs) u e (λ t p q.
    let put : sorted t.entries ≡ sorted s.entries ++ (r ∷ []) =
    ap (λ (x : Store). sorted x.entries) (put_is r s t p) ∙ put_sorted r s.entries h in
    loaded_sorted rs r.name t u c.2 (subst (λ (xs : List Ref). Ahead xs rs) (sym put) (next_ahead (sorted s.entries) r rs h c.2)) q
    ∙ ap (λ (xs : List Ref). xs ++ rs) put
    ∙ append_assoc (sorted s.entries) (r ∷ []) rs)

unpacked_sorted : (es : List Entry) → sorted (map (put_packed None) es) ≡ []
unpacked_sorted [] = refl
unpacked_sorted (e ∷ es) = unpacked_sorted es

none_ahead : (rs : List Ref) → Ahead [] rs
none_ahead [] = tt
none_ahead (r ∷ rs) = tt

-- refs that rise, loaded into a store whose packed values are gone, are its table
pub loaded_table : (rs : List Ref) (last : List ℕ) (s u : Store) → Chain last rs → loaded rs (unpacked s) ≡ Ok u → packed_table u ≡ rs
unfolding packed_table unpacked
loaded_table rs last s u c e =
    loaded_sorted rs last (unpacked s) u c (subst (λ (xs : List Ref). Ahead xs rs) (sym (unpacked_sorted s.entries)) (none_ahead rs)) e
    ∙ ap (λ (xs : List Ref). xs ++ rs) (unpacked_sorted s.entries)
