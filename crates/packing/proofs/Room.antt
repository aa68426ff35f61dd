-- Room for names: counting those that are new, in the store as it is, tells what loading refs that rise comes to. Assumes nothing.
use Rattle.std.specs.Prelude.{Option, Some, None, Ok, Err}
use mathlib.Core.Path.{◌≡◌, refl, sym, ap, subst, ◌∙◌}
use mathlib.Core.Bool.{Bool, true, false, ◌&&◌, cond, true≢false}
use mathlib.Core.List.{List, [], ◌∷◌, ◌++◌, map}
use Prim.Native.Nat.{ℕ, suc, ◌+◌, ◌≤◌, ◌<◌}
use native.Mathlib.Omega.{arith}
use lib.ListN.{length, length-map}
use lib.Dec.{leb}
use borrow.Author.Tests.{le-leb, lt-leb, leb-true, leb-false}
use Rattle.word.specs.Codec.{is_some}
use Rattle.word.proofs.Tests.{true_both, same_list_true}
use Rattle.model.specs.declared.Refusal.TheVariants.{NamesFull}
use Rattle.model.specs.Basic.{all}
use Rattle.model.specs.Names.{same_bytes, before}
use Rattle.model.specs.Store.{Store, Entry, count, put_packed, with_entries}
use Rattle.model.specs.Load.{number_from, new_entry}
use Rattle.model.specs.PackedText.{Ref, unpacked, packed_as, ref_loaded_as, ref_loaded, loaded}
use Rattle.model.proofs.Binds.{pass_is, refuse_pass, pass_then}
use Rattle.model.proofs.Places.{Each, each_weaken}
use Rattle.model.proofs.ByteOrder.{before_itself, before_trans}
use Rattle.model.proofs.TextLines.{Chain}
use Rattle.model.proofs.TextTable.{put_ref, put_is}
use Rattle.packing.specs.Load.{held_with, fits, entered, number_as, can_load, after_ref, after_refs}

-- ---- what is known once a ref is loaded

-- another name is known if it was
put_knows : (r : Ref) (x : List ℕ) → same_bytes x r.name ≡ false → (es : List Entry) (i : ℕ)
    → is_some (number_from i x (put_ref r es)) ≡ is_some (number_from i x es)
put_knows r x d [] i = rw d
put_knows r x d (e ∷ es) i = go (put_knows r x d es (i + 1)) (same_bytes r.name e.name)
  where
    inner : is_some (number_from (i + 1) x (put_ref r es)) ≡ is_some (number_from (i + 1) x es) → (t : Bool)
        → is_some (cond t (Some i) (number_from (i + 1) x (put_ref r es))) ≡ is_some (cond t (Some i) (number_from (i + 1) x es))
    inner rec true = refl
    inner rec false = rec

    go : is_some (number_from (i + 1) x (put_ref r es)) ≡ is_some (number_from (i + 1) x es) → (t : Bool)
        → is_some (number_from i x (cond t (put_packed (Some (record { 0 = r.object })) e ∷ es) (e ∷ put_ref r es))) ≡ is_some (number_from i x (e ∷ es))
    go rec true = refl
    go rec false = inner rec (same_bytes x e.name)

-- and there is one name more if its own was not
put_length : (r : Ref) (es : List Entry) (i : ℕ) → length (put_ref r es) ≡ cond (is_some (number_from i r.name es)) (length es) (length es + 1)
put_length r [] i = omega arith
put_length r (e ∷ es) i = go (put_length r es (i + 1)) (same_bytes r.name e.name)
  where
    inner : (b : Bool) (k n : ℕ) → k ≡ cond b n (n + 1) → suc k ≡ cond b (suc n) (suc n + 1)
    inner true k n q = ap suc q
    inner false k n q = omega arith

    go : length (put_ref r es) ≡ cond (is_some (number_from (i + 1) r.name es)) (length es) (length es + 1) → (t : Bool)
        → length (cond t (put_packed (Some (record { 0 = r.object })) e ∷ es) (e ∷ put_ref r es))
        ≡ cond (is_some (cond t (Some i) (number_from (i + 1) r.name es))) (suc (length es)) (suc (length es) + 1)
    go rec true = refl
    go rec false = inner (is_some (number_from (i + 1) r.name es)) (length (put_ref r es)) (length es) rec

-- ---- one ref

module _ (r : Ref) (t : Store) (few : count t ≤ 256) where
  abbrev As : Option ℕ → Bool → Type 0
  As o true = (u : Store) × (ref_loaded_as r t o ≡ Ok u)
  As o false = ref_loaded_as r t o ≡ Err NamesFull

  new_name : (b : Bool) → leb (count t + 1) 256 ≡ b → As None b
  new_name true q =
      let l : count t + 1 ≤ 256 = leb-true (count t + 1) 256 q in
      let k : count t < 256 = omega arith in
      (packed_as r (count t) (with_entries t (t.entries ++ (new_entry r.name ∷ []))), rw (lt-leb 256 (count t) k))
  new_name false q =
      let l : 256 < count t + 1 = leb-false (count t + 1) 256 q in
      let k : 256 ≤ count t = omega arith in
      rw (le-leb 256 (count t) k)

  by_number : (o : Option ℕ) (b : Bool) → leb (cond (is_some o) (count t) (count t + 1)) 256 ≡ b → As o b
  by_number (Some n) true q = (packed_as r n t, refl)
  by_number (Some n) false q = absurd (true≢false (sym (le-leb (count t) 256 few) ∙ q))
  by_number None b q = new_name b q

  abbrev Comes : Bool → Type 0
  Comes true = (u : Store) × (ref_loaded r t ≡ Ok u)
  Comes false = ref_loaded r t ≡ Err NamesFull

  ref_room : (b : Bool) → leb (held_with t.entries (Some r) (count t)) 256 ≡ b → Comes b
  unfolding ref_loaded
  ref_room true e = by_number (number_from 0 r.name t.entries) true e
  ref_room false e = by_number (number_from 0 r.name t.entries) false e

-- ---- refs that rise

-- each stands behind all that come before the first
chain_after : (last : List ℕ) (rs : List Ref) → Chain last rs → Each (λ x. before last x.name ≡ true) rs
chain_after last [] c = tt
chain_after last (r ∷ rs) c = (
  c.1,
  each_weaken (λ (x : Ref). before last x.name ≡ true) (λ (x : Ref). before r.name x.name ≡ true)
      (λ x q. before_trans last r.name x.name c.1 q) rs (chain_after r.name rs c.2),
)

-- and so has another name
other_name : (a x : List ℕ) → before a x ≡ true → same_bytes x a ≡ false
other_name a x h = go (same_bytes x a) refl
  where
    go : (t : Bool) → same_bytes x a ≡ t → same_bytes x a ≡ false
    go true e = absurd (true≢false (sym h ∙ ap (before a) (same_list_true x a e) ∙ before_itself a))
    go false e = e

fits_agree : (es es' : List Entry) (rs : List Ref)
    → Each (λ x. is_some (number_from 0 x.name es) ≡ is_some (number_from 0 x.name es')) rs → (k : ℕ) → fits es k rs ≡ fits es' k rs
fits_agree es es' [] h k = refl
fits_agree es es' (r ∷ rs) h k =
    let n : held_with es (Some r) k ≡ held_with es' (Some r) k = ap (λ (b : Bool). cond b k (k + 1)) h.0 in
    ap (λ (m : ℕ). leb m 256 && fits es m rs) n ∙ ap (λ (b : Bool). leb (held_with es' (Some r) k) 256 && b) (fits_agree es es' rs h.1 (held_with es' (Some r) k))

abbrev Rooms : Bool → List Ref → Store → Type 0
Rooms true rs t = (u : Store) × (loaded rs t ≡ Ok u)
Rooms false rs t = loaded rs t ≡ Err NamesFull

rooms_then : (b : Bool) (r : Ref) (rs : List Ref) (t u : Store) → ref_loaded r t ≡ Ok u → Rooms b rs u → Rooms b (r ∷ rs) t
unfolding loaded
rooms_then true r rs t u e (v, q) = (v, rw e q)
rooms_then false r rs t u e q = rw e q

rooms_full : (r : Ref) (rs : List Ref) (t : Store) → ref_loaded r t ≡ Err NamesFull → loaded (r ∷ rs) t ≡ Err NamesFull
unfolding loaded
rooms_full r rs t e = rw e

rooms_none : (b : Bool) (t : Store) → true ≡ b → Rooms b [] t
unfolding loaded
rooms_none true t e = (t, refl)
rooms_none false t e = absurd (true≢false e)

rooms : (rs : List Ref) (last : List ℕ) (t : Store) → Chain last rs → count t ≤ 256 → (b : Bool) → fits t.entries (count t) rs ≡ b → Rooms b rs t
rooms [] last t c few b e = rooms_none b t e
rooms (r ∷ rs) last t c few b e =
    go (λ u h k f. rooms rs r.name u c.2 h k f) (leb (held_with t.entries (Some r) (count t)) 256) refl b e
  where
    k' : ℕ
    k' = held_with t.entries (Some r) (count t)

    agree : fits (put_ref r t.entries) k' rs ≡ fits t.entries k' rs
    agree =
        fits_agree (put_ref r t.entries) t.entries rs
        (each_weaken (λ (x : Ref). is_some (number_from 0 x.name (put_ref r t.entries)) ≡ is_some (number_from 0 x.name t.entries))
        (λ (x : Ref). before r.name x.name ≡ true)
        (λ x q. put_knows r x.name (other_name r.name x.name q) t.entries 0) rs (chain_after r.name rs c.2))
        k'

    next : ((u : Store) → count u ≤ 256 → (b : Bool) → fits u.entries (count u) rs ≡ b → Rooms b rs u) → (u : Store) → ref_loaded r t ≡ Ok u → k' ≤ 256
        → (b : Bool) → fits t.entries k' rs ≡ b → Rooms b (r ∷ rs) t
    next rec u p l b q =
        let m : u ≡ with_entries t (put_ref r t.entries) = put_is r t u p in
        let n : count u ≡ k' = ap count m ∙ put_length r t.entries 0 in
        let f : fits u.entries (count u) rs ≡ b =
        ap (λ (k : ℕ). fits u.entries k rs) n ∙ ap (λ (x : Store). fits x.entries k' rs) m ∙ agree ∙ q in
        rooms_then b r rs t u p (rec u (subst (λ (k : ℕ). k ≤ 256) (sym n) l) b f)

    go : ((u : Store) → count u ≤ 256 → (b : Bool) → fits u.entries (count u) rs ≡ b → Rooms b rs u) → (l : Bool) → leb k' 256 ≡ l → (b : Bool)
        → (leb k' 256 && fits t.entries k' rs) ≡ b → Rooms b (r ∷ rs) t
    go rec true p b q = let u = ref_room r t few true p in next rec u.0 u.1 (leb-true k' 256 p) b (rw p at q)
    go rec false p true q = absurd (true≢false (sym q ∙ rw p))
    go rec false p false q = rooms_full r rs t (ref_room r t few false p)

-- ---- of a store whose packed values go first

mapped_number : (x : List ℕ) (es : List Entry) (i : ℕ) → number_from i x (map (put_packed None) es) ≡ number_from i x es
mapped_number x [] i = refl
mapped_number x (e ∷ es) i = ap (cond (same_bytes x e.name) (Some i)) (mapped_number x es (i + 1))

each_so : {A : Type 0} (P : A → Type 0) → ((a : A) → P a) → (xs : List A) → Each P xs
each_so P f [] = tt
each_so P f (x ∷ xs) = (f x, each_so P f xs)

module _ (rs : List Ref) (last : List ℕ) (s : Store) (c : Chain last rs) (few : count s ≤ 256) where
  room_is : (b : Bool) → fits s.entries (count s) rs ≡ b → Rooms b rs (unpacked s)
  unfolding unpacked
  room_is b e =
      let es : List Entry = map (put_packed None) s.entries in
      let n : length es ≡ count s = length-map s.entries _ in
      rooms rs last (unpacked s) c (subst (λ (k : ℕ). k ≤ 256) (sym n) few) b
      (ap (λ (k : ℕ). fits es k rs) n
      ∙ fits_agree es s.entries rs (each_so (λ (x : Ref). is_some (number_from 0 x.name es) ≡ is_some (number_from 0 x.name s.entries)) (λ x. ap is_some (mapped_number x.name s.entries 0)) rs) (count s)
      ∙ e)

  pub room_there : fits s.entries (count s) rs ≡ true → (u : Store) × (loaded rs (unpacked s) ≡ Ok u)
  room_there e = room_is true e

  pub room_gone : fits s.entries (count s) rs ≡ false → loaded rs (unpacked s) ≡ Err NamesFull
  room_gone e = room_is false e

-- ---- what loading comes to, as a total function

pub after_ref_lem : (r : Ref) (s t : Store) → ref_loaded r s ≡ Ok t → t ≡ after_ref r s
unfolding ref_loaded
after_ref_lem r s t e = go (number_from 0 r.name s.entries) e
  where
    new : (b : Bool) → leb 256 (count s) ≡ b → ref_loaded_as r s None ≡ Ok t → t ≡ packed_as r (count s) (entered r.name s None)
    new true p q = absurd (refuse_pass (rw p at q))
    new false p q = sym (pass_is (rw p at q))

    go : (o : Option ℕ) → ref_loaded_as r s o ≡ Ok t → t ≡ packed_as r (number_as s o) (entered r.name s o)
    go (Some n) q = sym (pass_is q)
    go None q = new (leb 256 (count s)) refl q

pub after_refs_lem : (rs : List Ref) (s t : Store) → loaded rs s ≡ Ok t → t ≡ after_refs rs s
unfolding loaded
after_refs_lem [] s t e = sym (pass_is e)
after_refs_lem (r ∷ rs) s t e =
    pass_then (ref_loaded r s) (loaded rs) t e (λ u p q. after_refs_lem rs u t q ∙ ap (after_refs rs) (after_ref_lem r s u p))

pub chain_can : (last : List ℕ) (rs : List Ref) → Chain last rs → all can_load rs ≡ true
chain_can last [] c = refl
chain_can last (r ∷ rs) c =
    let f : can_load r ≡ true = rw (c.0.name, c.0.id, c.0.packs) in
    true_both f (chain_can r.name rs c.2)
