-- One entry more sorted in: what a name without a packed value leaves, and what a number in its place makes. Assumes nothing.
use Rattle.std.specs.Prelude.{Option, Some}
use mathlib.Core.Path.{◌≡◌, sym, ap, ap₂, ◌∙◌}
use mathlib.Core.Bool.{true}
use mathlib.Core.List.{List, [], ◌∷◌, ◌++◌, map, append_assoc}
use Prim.Native.Nat.{ℕ, zero, suc, ◌+◌, ◌-◌, ◌≤◌, ◌<◌}
use native.Mathlib.Numerals.{add-one}
use native.Mathlib.Omega.{arith}
use lib.ListN.{length, take, drop, set, length-set, length-append, length-drop, drop_of_length-le}
use lib.Seq.{length-take-le, drop-cons, take-take, take_at}
use Rattle.target.specs.declared.NameNumber.{NameNumber}
use Rattle.target.specs.declared.ObjectNumber.{ObjectNumber}
use Rattle.model.specs.Store.{Store, Entry, no_entry, count, entry_at, entry_of}
use Rattle.model.specs.PackedText.{Ref, insert, with_packed, sorted}
use Rattle.model.specs.Texts.{rises}
use Rattle.model.proofs.Texts.{rising_rises}
use Rattle.model.proofs.TextTable.{Distinct, sorted_rises}
use Rattle.model.proofs.TextStore.{distinct}
use Rattle.region.specs.Region.{view, good, Laid}
use Rattle.region.proofs.Decode.{good_parts, laid}
use Rattle.ordering.specs.Order.{object_in, ref_at, first_at, Places, Opened, Ordered}
use Rattle.ordering.proofs.Lists.{map_append, map_take, map_drop}
use Rattle.ordering.proofs.Opens.{put_at}

-- ---- a good region: laid out so, and what is sorted in it rises

pub good_laid : (r : List ℕ) → good r ≡ true → Laid r
good_laid r g = laid r (good_parts r g).0

-- no two of the later entries have one name either
later_distinct : (n : ℕ) (es : List Entry) → Distinct es → Distinct (drop n es)
later_distinct zero es d = d
later_distinct (suc n) [] d = tt
later_distinct (suc n) (e ∷ es) d = later_distinct n es d.1

pub order_rises : (r : List ℕ) (n held : ℕ) (numbers : List ℕ) → good r ≡ true → Ordered (view r) n numbers held
    → rises (first_at (view r) held numbers) ≡ true
order_rises r n held numbers g o =
    ap rises o.sorts
    ∙ rising_rises (sorted (drop n (view r).entries)) (sorted_rises (drop n (view r).entries)
    (later_distinct n (view r).entries (distinct (view r) (good_parts r g).1)))

-- ---- a number put in the place that was opened

module _ (numbers : List ℕ) (held n at : ℕ) (h : held < length numbers) (l : at ≤ held) (ys : List ℕ) (f : Opened numbers at held ys) where
  put_first : take (held + 1) (set ys at n) ≡ take at (take held numbers) ++ (n ∷ drop at (take held numbers))
  put_first =
      let t : List ℕ = take held numbers in
      let e : length (take at numbers ++ (n ∷ drop at t)) ≡ held + 1 =
      length-append (take at numbers) (n ∷ drop at t)
      ∙ omega (arith, length-take-le at numbers (omega arith), length-drop at t, length-take-le held numbers (omega arith)) in
      ap (take (held + 1)) (put_at numbers held h at ys n l f ∙ sym (append_assoc (take at numbers) (n ∷ drop at t) (drop (held + 1) numbers)))
      ∙ take_at (take at numbers ++ (n ∷ drop at t)) (drop (held + 1) numbers) (held + 1) e
      ∙ ap (λ (p : List ℕ). p ++ (n ∷ drop at t)) (sym (take-take at held numbers l))

  put_refs : (s : Store) → first_at s (held + 1) (set ys at n) ≡ take at (first_at s held numbers) ++ (ref_at s n ∷ drop at (first_at s held numbers))
  unfolding first_at
  put_refs s =
      ap (map (ref_at s)) put_first
      ∙ map_append (ref_at s) (take at (take held numbers)) (n ∷ drop at (take held numbers))
      ∙ ap₂ (λ (a b : List Ref). a ++ (ref_at s n ∷ b)) (map_take (ref_at s) at (take held numbers)) (map_drop (ref_at s) at (take held numbers))

-- ---- one entry more

-- the entry at n is sorted in among those behind it
sorted_more : (s : Store) (n : ℕ) → n < count s
    → sorted (drop n s.entries) ≡ with_packed (entry_at s n).name (entry_at s n).packed (sorted (drop (n + 1) s.entries))
sorted_more s n h = rw add-one (ap sorted (drop-cons s.entries n no_entry h))

module _ (s : Store) (n : ℕ) (h : n < count s) (numbers : List ℕ) (held : ℕ) (o : Ordered s (n + 1) numbers held)
    (name : NameNumber) (en : name ≡ record { 0 = n }) (p : Option ObjectNumber) (ep : p ≡ (entry_of s name).packed) where
  here : (entry_at s n).packed ≡ p
  here = ap (λ (m : NameNumber). (entry_of s m).packed) (sym en) ∙ sym ep

  -- one with a packed value makes one more, in its place
  pub order_more : (i : ObjectNumber) → p ≡ Some i → (at : ℕ) (ys : List ℕ) → Places s numbers held name.0 at → Opened numbers at held ys
      → length ys ≡ length numbers → Ordered s n (set ys at n) (held + 1)
  order_more i q at ys e f k =
      let m : n ≡ name.0 = ap (λ (m : NameNumber). m.0) (sym en) in
      let z : length numbers ≡ 256 = o.size in
      let c : held + (n + 1) ≤ 256 = o.few in
      let g : Places s numbers held n at = rw m e in
      record {
        size = length-set ys at n ∙ k ∙ z;
        few = omega arith;
        sorts =
            put_refs numbers held n at (omega arith) g.inside ys f s
            ∙ sym g.place
            ∙ ap (insert (ref_at s n)) o.sorts
            ∙ object_in_lem (entry_at s n).name (entry_at s n).packed (sorted (drop (n + 1) s.entries)) i (here ∙ q)
            ∙ sym (sorted_more s n h);
      }
    where
      object_in_lem : (b : List ℕ) (v : Option ObjectNumber) (rs : List Ref) (i : ObjectNumber) → v ≡ Some i
          → insert (record { name = b; object = object_in v }) rs ≡ with_packed b v rs
      object_in_lem b v rs i q = rw q

-- ---- all of them, from the last on

-- none yet
pub order_start : (r : List ℕ) (k : ℕ) (numbers : List ℕ) → good r ≡ true → length numbers ≡ 256 → k ≡ count (view r) → Ordered (view r) k numbers 0
unfolding first_at
order_start r k numbers g z e =
    let f : count (view r) ≤ 256 = (good_laid r g).names in
    let d : length (view r).entries ≤ k = omega arith in
    record { size = z; few = omega arith; sorts = sym (ap sorted (drop_of_length-le (view r).entries d)) }
