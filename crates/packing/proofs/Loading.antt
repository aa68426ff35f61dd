-- The lines of a text one by one: turns and ends of the two loops over them, and what each line leaves. Assumes nothing.
use Rattle.std.specs.Prelude.{Option, Some, None, Ok}
use mathlib.Core.Path.{◌≡◌, refl, sym, ap, ap₂, subst, ◌∙◌}
use mathlib.Core.Bool.{Bool, true, false, ◌&&◌}
use mathlib.Core.List.{List, [], ◌∷◌, ◌++◌}
use Prim.Native.Nat.{ℕ, zero, suc, ◌+◌, ◌-◌, ◌^◌, ◌≤◌, ◌<◌}
use native.Mathlib.Omega.{arith}
use lib.ListN.{length, get_or, take, drop, length-append}
use lib.Dec.{ltb, leb}
use borrow.Author.Tests.{le-leb, lt-leb, leb-false, ltb-true}
use Rattle.word.proofs.Tests.{both_true, every_at}
use Rattle.target.specs.declared.NameNumber.{NameNumber}
use Rattle.model.specs.Basic.{all}
use Rattle.model.specs.Names.{pieces, is_name, packable}
use Rattle.model.specs.Store.{Store, Entry, count, is_id, put_packed, change_entry, with_entries}
use Rattle.model.specs.Load.{number_from, new_entry}
use Rattle.model.specs.PackedText.{Ref, ref_in, ref_loaded_as, ref_loaded, loaded}
use Rattle.model.proofs.Binds.{none_some, some_is, refuse_pass, pass_then}
use Rattle.model.proofs.NameBytes.{is_named}
use Rattle.model.proofs.Digits.{ref_reaches}
use Rattle.model.proofs.TextTable.{Found, number_found}
use Rattle.names.specs.Parts.{up_to}
use Rattle.names.proofs.Bytes.{to_end}
use Rattle.names.proofs.Pieces.{parts_first, parts_left, parts_less, parts_then}
use Rattle.texts.specs.Lines.{ref_by}
use Rattle.texts.specs.Walk.{refs_of, refs_in, first_refs}
use Rattle.texts.proofs.Walking.{one_piece}
use Rattle.slots.specs.Values.{FitsPacked}
use Rattle.region.specs.Region.{view, Laid, Became}
use Rattle.steps.specs.Steps.{found_option}
use Rattle.packing.specs.Load.{held_with, fits, entered, number_as, Numbers, Numbered, can_load, after_line, LineLoads, LineLoaded, after_refs, LinesLoad, LinesLoaded}
use Rattle.packing.proofs.Room.{after_ref_lem}

-- ---- the next line, where so many are left

module _ (rest : List ℕ) (left n : ℕ) (h : left < length (pieces 10 rest)) (z : 0 < left) (e : n ≡ up_to 10 rest) where
  pub line_ends : n ≡ length rest → ⊥
  line_ends q =
      let p : length (pieces 10 rest) ≡ 1 = ap length (one_piece rest (sym e ∙ q)) in
      omega arith

  then : pieces 10 rest ≡ take n rest ∷ pieces 10 (take (length rest - (n + 1)) (drop (n + 1) rest))
  then = parts_then 10 rest n e line_ends ∙ ap (λ (l : List ℕ). take n rest ∷ pieces 10 l) (sym (to_end rest (n + 1)))

  pub next_fewer : left - 1 < length (pieces 10 (take (length rest - (n + 1)) (drop (n + 1) rest)))
  next_fewer =
      let p : length (pieces 10 rest) ≡ suc (length (pieces 10 (take (length rest - (n + 1)) (drop (n + 1) rest)))) = ap length then in
      omega arith

  pub next_refs : first_refs left rest ≡ refs_of (ref_in (take n rest)) ++ first_refs (left - 1) (take (length rest - (n + 1)) (drop (n + 1) rest))
  unfolding first_refs
  next_refs =
      let k : left ≡ suc (left - 1) = omega arith in
      ap₂ (λ (m : ℕ) (ps : List (List ℕ)). refs_in (take m ps)) k then

  pub next_left : n + 1 ≤ length rest
  next_left = parts_left 10 rest n e line_ends

  next_less : length (take (length rest - (n + 1)) (drop (n + 1) rest)) < length rest
  next_less = parts_less 10 rest n e line_ends

  shorter : (most : ℕ) → length rest ≤ most → length (take (length rest - (n + 1)) (drop (n + 1) rest)) ≤ most
  shorter most l = omega (arith, next_less)

  pub next_line : n ≡ length (take n rest)
  next_line = parts_first 10 rest n e

-- ---- a ref line, by its object

module _ (l : List ℕ) (o : Option ℕ) (e : ref_by o l ≡ ref_in l) (x : ℕ) (q : o ≡ Some x) where
  line_ref : ref_in l ≡ Some (record { name = drop 41 l; object = x })
  line_ref = sym e ∙ ap (λ (o : Option ℕ). ref_by o l) q

  pub line_reaches : 41 ≤ length l
  line_reaches = ref_reaches l (record { name = drop 41 l; object = x }) line_ref

-- ---- how many names are held with a line

module _ (es : List Entry) (l : List ℕ) (k : ℕ) (o : Option ℕ) (e : ref_by o l ≡ ref_in l) where
  pub held_none : o ≡ None → k ≡ held_with es (ref_in l) k
  held_none q = ap (λ (r : Option Ref). held_with es r k) (sym (ap (λ (o : Option ℕ). ref_by o l) q) ∙ e)

  module _ (x : ℕ) (q : o ≡ Some x) where
    module _ (p : Option NameNumber) (f : found_option p ≡ number_from 0 (take (length l - 41) (drop 41 l)) es) where
      found : number_from 0 (drop 41 l) es ≡ found_option p
      found = ap (λ (n : List ℕ). number_from 0 n es) (sym (to_end l 41)) ∙ sym f

      pub held_new : p ≡ None → k + 1 ≡ held_with es (ref_in l) k
      held_new z = rw (line_ref l o e x q, found, z)

      pub held_known : (n : NameNumber) → p ≡ Some n → k ≡ held_with es (ref_in l) k
      held_known n z = rw (line_ref l o e x q, found, z)

-- ---- the loop that counts

-- what is left of a text is no longer than it
pub record Counted (es : List Entry) (goal : Bool) (most : ℕ) (rest : List ℕ) (left held : ℕ) : Type 0 where
  pub within : length rest ≤ most
  pub few : held ≤ 256
  pub more : left < length (pieces 10 rest)
  pub same : fits es held (first_refs left rest) ≡ goal

pub count_start : (es : List Entry) (t : List ℕ) (lines held k : ℕ) → lines < length (pieces 10 t) → held ≡ k → k ≤ 256 → Counted es (fits es k (first_refs lines t)) (length t) t lines held
count_start es t lines held k h e f = record {
  within = omega arith;
  few = subst (λ (n : ℕ). n ≤ 256) (sym e) f;
  more = h;
  same = ap (λ (n : ℕ). fits es n (first_refs lines t)) e;
}

fits_line : (es : List Entry) (o : Option Ref) (rs : List Ref) (k : ℕ) → k ≤ 256
    → fits es k (refs_of o ++ rs) ≡ (leb (held_with es o k) 256 && fits es (held_with es o k) rs)
fits_line es None rs k h = rw (le-leb k 256 h)
fits_line es (Some r) rs k h = refl

module _ (es : List Entry) (goal : Bool) (most : ℕ) (rest : List ℕ) (left held : ℕ) (c : Counted es goal most rest left held) where
  pub count_end : left ≤ 0 → true ≡ goal
  unfolding first_refs
  count_end d = go left d c.same
    where
      go : (left : ℕ) → left ≤ 0 → fits es held (first_refs left rest) ≡ goal → true ≡ goal
      go zero d q = q
      go (suc m) d q = absurd (omega arith)

  module _ (z : 0 < left) (n : ℕ) (e : n ≡ up_to 10 rest) (m : ℕ) (f : m ≡ held_with es (ref_in (take n rest)) held) where
    splits : (leb m 256 && fits es m (first_refs (left - 1) (take (length rest - (n + 1)) (drop (n + 1) rest)))) ≡ goal
    splits =
        ap (λ (k : ℕ). leb k 256 && fits es k (first_refs (left - 1) (take (length rest - (n + 1)) (drop (n + 1) rest)))) f
        ∙ sym (fits_line es (ref_in (take n rest)) (first_refs (left - 1) (take (length rest - (n + 1)) (drop (n + 1) rest))) held c.few)
        ∙ ap (fits es held) (sym (next_refs rest left n c.more z e))
        ∙ c.same

    pub count_stop : 256 < m → false ≡ goal
    count_stop h = rw (lt-leb m 256 h) at splits

    pub count_on : m ≤ 256 → Counted es goal most (take (length rest - (n + 1)) (drop (n + 1) rest)) (left - 1) m
    count_on h = record { within = shorter rest left n c.more z e most c.within; few = h; more = next_fewer rest left n c.more z e; same = rw (le-leb m 256 h) at splits }

-- ---- a name

module _ (name r : List ℕ) (l : Laid r) (o : Option NameNumber) (f : found_option o ≡ number_from 0 name (view r).entries) where
  pub number_known : (n : NameNumber) → o ≡ Some n → Numbered name (view r) n r
  number_known n q =
      let p : number_from 0 name (view r).entries ≡ Some n.0 = sym f ∙ ap found_option q in
      let g : Found (record { name = name; object = 0 }) (view r).entries 0 n.0 = number_found (record { name = name; object = 0 }) (view r).entries 0 n.0 p in
      let a : n.0 ≡ 0 + g.place = g.at in
      let b : g.place < count (view r) = g.near in
      record {
        laid = l;
        seen = sym (ap (entered name (view r)) p);
        number = sym (ap (number_as (view r)) p);
        below = omega arith;
      }

  module _ (q : o ≡ None) where
    unknown : number_from 0 name (view r).entries ≡ None
    unknown = sym f ∙ ap found_option q

    pub number_room : Numbers name (view r) → count (view r) < 256
    number_room h = h.room unknown

    pub number_at : (k : ℕ) → Numbers name (view r) → k ≡ count (view r) → k < 256
    number_at k h e = subst (λ (n : ℕ). n < 256) (sym e) (number_room h)

    pub number_new : (k : ℕ) (r' : List ℕ) (n : NameNumber) → k ≡ count (view r) → Became r' (with_entries (view r) ((view r).entries ++ (new_entry name ∷ [])))
        → n ≡ record { 0 = k } → Numbered name (view r) n r'
    number_new k r' n e b w =
        let c : count (view r') ≡ count (view r) + 1 = ap count b.seen ∙ length-append (view r).entries (new_entry name ∷ []) in
        let d : n.0 ≡ k = ap (λ (m : NameNumber). m.0) w in
        record {
          laid = b.laid;
          seen = b.seen ∙ sym (ap (entered name (view r)) unknown);
          number = d ∙ e ∙ sym (ap (number_as (view r)) unknown);
          below = omega arith;
        }

-- ---- a line

module _ (r l : List ℕ) (laid : Laid r) (h : LineLoads (ref_in l) (view r)) (o : Option ℕ) (e : ref_by o l ≡ ref_in l) where
  pub load_none : o ≡ None → LineLoaded (ref_in l) (view r) r
  load_none q =
      let p : ref_in l ≡ None = sym e ∙ ap (λ (o : Option ℕ). ref_by o l) q in
      record { laid = laid; seen = sym (ap (λ (x : Option Ref). after_line x (view r)) p) }

  module _ (x : ℕ) (q : o ≡ Some x) where
    is_the : ref_in l ≡ Some (record { name = drop 41 l; object = x })
    is_the = line_ref l o e x q

    can : (i : ℕ) → get_or (is_name (drop 41 l) ∷ is_id x ∷ packable (drop 41 l) ∷ []) i true ≡ true
    can i = every_at (is_name (drop 41 l) ∷ is_id x ∷ packable (drop 41 l) ∷ []) i (h.can (record { name = drop 41 l; object = x }) is_the)

    pub load_numbers : Numbers (take (length l - 41) (drop 41 l)) (view r)
    load_numbers =
        subst (λ (n : List ℕ). Numbers n (view r)) (sym (to_end l 41))
        (record { short = (is_named (drop 41 l) (can 0)).short; room = h.room (record { name = drop 41 l; object = x }) is_the })

    pub load_fits : FitsPacked (Some (record { 0 = x }))
    load_fits =
        let b : (ltb 0 x ≡ true) × (ltb x (2 ^ 64) ≡ true) = both_true (ltb 0 x) _ (can 1) in
        (ltb-true 0 x b.0, ltb-true x (2 ^ 64) b.1)

    pub load_done : (n : NameNumber) (r₁ r₂ : List ℕ) → Numbered (take (length l - 41) (drop 41 l)) (view r) n r₁
        → Became r₂ (change_entry (put_packed (Some (record { 0 = x }))) n.0 (view r₁)) → LineLoaded (ref_in l) (view r) r₂
    load_done n r₁ r₂ g b =
        let k : Numbered (drop 41 l) (view r) n r₁ = subst (λ (m : List ℕ). Numbered m (view r) n r₁) (to_end l 41) g in
        record {
          laid = b.laid;
          seen =
              b.seen
              ∙ ap₂ (λ (m : ℕ) (s : Store). change_entry (put_packed (Some (record { 0 = x }))) m s) k.number k.seen
              ∙ sym (ap (λ (o : Option Ref). after_line o (view r)) is_the);
        }

-- ---- the loop that loads

pub record Loading (rs : List Ref) (s : Store) (most : ℕ) (rest : List ℕ) (left : ℕ) (r : List ℕ) : Type 0 where
  pub within : length rest ≤ most
  pub laid : Laid r
  pub more : left < length (pieces 10 rest)
  pub can : all can_load (first_refs left rest) ≡ true
  pub then : Store
  pub loads : loaded (first_refs left rest) (view r) ≡ Ok then
  pub same : after_refs (first_refs left rest) (view r) ≡ after_refs rs s

pub load_start : (t : List ℕ) (lines : ℕ) (r : List ℕ) → Laid r → lines < length (pieces 10 t) → LinesLoad (first_refs lines t) (view r)
    → Loading (first_refs lines t) (view r) (length t) t lines r
load_start t lines r l h g = record { within = omega arith; laid = l; more = h; can = g.can; then = g.then; loads = g.loads; same = refl }

-- a name that loading a ref would add has room
ref_room : (r : Ref) (s t : Store) → ref_loaded r s ≡ Ok t → number_from 0 r.name s.entries ≡ None → count s < 256
unfolding ref_loaded
ref_room r s t e q = go (leb 256 (count s)) refl (sym (ap (ref_loaded_as r s) q) ∙ e)
  where
    go : (b : Bool) → leb 256 (count s) ≡ b → ref_loaded_as r s None ≡ Ok t → count s < 256
    go true p f = absurd (refuse_pass (rw p at f))
    go false p f = leb-false 256 (count s) p

abbrev Parts : Option Ref → List Ref → Store → Store → Type 0
Parts o rs s t = LineLoads o s × ((u : Store) × (loaded rs u ≡ Ok t) × (u ≡ after_line o s)) × (all can_load rs ≡ true)

parts : (o : Option Ref) (rs : List Ref) (s t : Store) → all can_load (refs_of o ++ rs) ≡ true → loaded (refs_of o ++ rs) s ≡ Ok t → Parts o rs s t
unfolding loaded
parts None rs s t c e = (
  record { can = λ r q. absurd (none_some q); room = λ r q. absurd (none_some q) },
  (s, e, refl),
  c,
)
parts (Some x) rs s t c e =
    let b : (can_load x ≡ true) × (all can_load rs ≡ true) = both_true (can_load x) (all can_load rs) c in
    pass_then (ref_loaded x s) (loaded rs) t e (λ u p q. (
      record {
        can = λ r w. subst (λ (y : Ref). can_load y ≡ true) (some_is w) b.0;
        room = λ r w. subst (λ (y : Ref). number_from 0 y.name s.entries ≡ None → count s < 256) (some_is w) (ref_room x s u p);
      },
      (u, q, after_ref_lem x s u p),
      b.1,
    ))

after_parts : (o : Option Ref) (rs : List Ref) (s : Store) → after_refs (refs_of o ++ rs) s ≡ after_refs rs (after_line o s)
after_parts None rs s = refl
after_parts (Some r) rs s = refl

module _ (rs : List Ref) (s : Store) (most : ℕ) (rest : List ℕ) (left : ℕ) (r : List ℕ) (c : Loading rs s most rest left r) where
  pub load_end : left ≤ 0 → LinesLoaded rs s r
  unfolding first_refs
  load_end d = record { laid = c.laid; seen = go left d c.same }
    where
      go : (left : ℕ) → left ≤ 0 → after_refs (first_refs left rest) (view r) ≡ after_refs rs s → view r ≡ after_refs rs s
      go zero d q = q
      go (suc m) d q = absurd (omega arith)

  module _ (z : 0 < left) (n : ℕ) (e : n ≡ up_to 10 rest) where
    here : first_refs left rest ≡ refs_of (ref_in (take n rest)) ++ first_refs (left - 1) (take (length rest - (n + 1)) (drop (n + 1) rest))
    here = next_refs rest left n c.more z e

    now_parts : Parts (ref_in (take n rest)) (first_refs (left - 1) (take (length rest - (n + 1)) (drop (n + 1) rest))) (view r) c.then
    now_parts =
        parts (ref_in (take n rest)) (first_refs (left - 1) (take (length rest - (n + 1)) (drop (n + 1) rest))) (view r) c.then
        (ap (all can_load) (sym here) ∙ c.can)
        (ap (λ (x : List Ref). loaded x (view r)) (sym here) ∙ c.loads)

    pub load_line : LineLoads (ref_in (take n rest)) (view r)
    load_line = now_parts.0

    pub load_on : (r' : List ℕ) → LineLoaded (ref_in (take n rest)) (view r) r'
        → Loading rs s most (take (length rest - (n + 1)) (drop (n + 1) rest)) (left - 1) r'
    load_on r' g =
        let rs' : List Ref = first_refs (left - 1) (take (length rest - (n + 1)) (drop (n + 1) rest)) in
        let p = now_parts.1 in
        let v : view r' ≡ p.0 = g.seen ∙ sym p.2 in
        record {
          within = shorter rest left n c.more z e most c.within;
          laid = g.laid;
          more = next_fewer rest left n c.more z e;
          can = now_parts.2;
          then = c.then;
          loads = ap (loaded rs') v ∙ p.1;
          same =
              ap (after_refs rs') g.seen
              ∙ sym (after_parts (ref_in (take n rest)) rs' (view r))
              ∙ ap (λ (x : List Ref). after_refs x (view r)) (sym here)
              ∙ c.same;
        }
