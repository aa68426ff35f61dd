-- The lines of names in an order that is given by number: how long they are, and turns of the loops that measure and write them. Assumes nothing.
use mathlib.Core.Path.{◌≡◌, refl, sym, ap, ap₂, ◌∙◌}
use mathlib.Core.Bool.{Bool, true, false}
use mathlib.Core.List.{List, [], ◌∷◌, ◌++◌, map, append_assoc, append-nil}
use Prim.Native.Nat.{ℕ, ◌+◌, ◌-◌, ◌*◌, ◌≤◌, ◌<◌}
use native.Mathlib.Numerals.{add-one}
use native.Mathlib.Omega.{arith}
use lib.ListN.{length, get_or, take, drop, take-append-drop, get_or-eq_default}
use lib.Seq.{take-suc, take-take, take_at, drop_at, drop-drop}
use lib.Dec.{ltb}
use borrow.Author.Tests.{ltb-true, ltb-false}
use Rattle.word.specs.Cut.{put}
use Rattle.target.specs.declared.NameNumber.{NameNumber}
use Rattle.model.specs.Basic.{collect}
use Rattle.model.specs.Store.{Store, Entry, no_entry, count, entry_at, entry_of}
use Rattle.model.specs.PackedText.{Ref, ref_line}
use Rattle.model.specs.Texts.{lengths}
use Rattle.model.proofs.Texts.{lines_length}
use Rattle.region.specs.Region.{view, Laid}
use Rattle.region.proofs.Read.{name_short}
use Rattle.ordering.specs.Order.{object_in, ref_at, first_at}
use Rattle.ordering.proofs.Lists.{map_append, collect_append}

-- ---- how long the bytes of a name are

bytes_short : (r : List ℕ) (name : NameNumber) (b : List ℕ) → Laid r → b ≡ (entry_of (view r) name).name → length b ≤ 64
bytes_short r name b l e = rw e (go (ltb name.0 (count (view r))) refl)
  where
    go : (t : Bool) → ltb name.0 (count (view r)) ≡ t → length (entry_of (view r) name).name ≤ 64
    go true q = name_short r l name.0 (ltb-true name.0 (count (view r)) q)
    go false q =
        let z : length (entry_of (view r) name).name ≡ 0 =
        ap (λ (e : Entry). length e.name) (get_or-eq_default (view r).entries no_entry (ltb-false name.0 (count (view r)) q)) in
        omega arith

-- ---- one line more

lengths_append : (xs ys : List Ref) → lengths (xs ++ ys) ≡ lengths xs + lengths ys
lengths_append [] ys = omega arith
lengths_append (x ∷ xs) ys = let e : lengths (xs ++ ys) ≡ lengths xs + lengths ys = lengths_append xs ys in omega arith

module _ (s : Store) (numbers : List ℕ) where
  first_more : (i : ℕ) → i < length numbers → first_at s (i + 1) numbers ≡ first_at s i numbers ++ (ref_at s (get_or numbers i 0) ∷ [])
  unfolding first_at
  first_more i h = rw add-one (ap (map (ref_at s)) (take-suc numbers i 0 h) ∙ map_append (ref_at s) (take i numbers) (get_or numbers i 0 ∷ []))

  -- the first i begin the first k
  first_less : (i k : ℕ) → i ≤ k → lengths (first_at s i numbers) ≤ lengths (first_at s k numbers)
  unfolding first_at
  first_less i k l =
      let whole : take i numbers ++ drop i (take k numbers) ≡ take k numbers =
      ap (λ (xs : List ℕ). xs ++ drop i (take k numbers)) (sym (take-take i k numbers l)) ∙ take-append-drop i (take k numbers) in
      let sum : lengths (map (ref_at s) (take k numbers)) ≡ lengths (map (ref_at s) (take i numbers)) + lengths (map (ref_at s) (drop i (take k numbers))) =
      ap (λ (xs : List ℕ). lengths (map (ref_at s) xs)) (sym whole)
      ∙ ap lengths (map_append (ref_at s) (take i numbers) (drop i (take k numbers)))
      ∙ lengths_append (map (ref_at s) (take i numbers)) (map (ref_at s) (drop i (take k numbers))) in
      omega arith

  -- with the bytes of the name whose number stands at i
  module _ (name : NameNumber) (b : List ℕ) (i : ℕ) (en : name ≡ record { 0 = get_or numbers i 0 }) (eb : b ≡ (entry_of s name).name) where
    bytes_at : b ≡ (entry_at s (get_or numbers i 0)).name
    bytes_at = eb ∙ ap (λ (m : NameNumber). (entry_of s m).name) en

    lengths_more : i < length numbers → lengths (first_at s (i + 1) numbers) ≡ lengths (first_at s i numbers) + (42 + length b)
    lengths_more h =
        let one : lengths (ref_at s (get_or numbers i 0) ∷ []) ≡ 42 + length b =
        rw bytes_at (omega arith) in
        ap lengths (first_more i h) ∙ lengths_append (first_at s i numbers) (ref_at s (get_or numbers i 0) ∷ []) ∙ omega arith

-- ---- lines measured: the first i are so long

pub record Measured (s : Store) (numbers : List ℕ) (held i total : ℕ) : Type 0 where
  pub inside : i ≤ held
  pub small : total ≤ i * 106
  pub sum : total ≡ lengths (first_at s i numbers)

pub measure_start : (s : Store) (numbers : List ℕ) (held : ℕ) → Measured s numbers held 0 0
unfolding first_at
measure_start s numbers held = record { inside = omega arith; small = omega arith; sum = refl }

pub measure_more : (r numbers : List ℕ) (held i total : ℕ) (name : NameNumber) (b : List ℕ) → Laid r → held ≤ length numbers → i < held
    → Measured (view r) numbers held i total → name ≡ record { 0 = get_or numbers i 0 } → b ≡ (entry_of (view r) name).name
    → Measured (view r) numbers held (i + 1) (total + (42 + length b))
measure_more r numbers held i total name b l h k m en eb =
    let short : length b ≤ 64 = bytes_short r name b l eb in
    let e : lengths (first_at (view r) (i + 1) numbers) ≡ lengths (first_at (view r) i numbers) + (42 + length b) =
    lengths_more (view r) numbers name b i en eb (omega arith) in
    record { inside = omega arith; small = omega arith; sum = omega arith }

-- ---- lines written: those of the first i, and behind them what was there

pub record Written (s : Store) (numbers : List ℕ) (held : ℕ) (start buffer : List ℕ) (i at : ℕ) : Type 0 where
  pub inside : i ≤ held
  pub sized : length buffer ≡ length start
  pub end : at ≡ lengths (first_at s i numbers)
  pub text : buffer ≡ collect ref_line (first_at s i numbers) ++ drop at start

pub write_start : (s : Store) (numbers : List ℕ) (held : ℕ) (start : List ℕ) → Written s numbers held start start 0 0
unfolding first_at
write_start s numbers held start = record { inside = omega arith; sized = refl; end = refl; text = refl }

module _ (s : Store) (numbers : List ℕ) (held : ℕ) (start buffer : List ℕ) (i at : ℕ) (h : held ≤ length numbers) (k : i < held)
    (w : Written s numbers held start buffer i at)
    (name : NameNumber) (b : List ℕ) (en : name ≡ record { 0 = get_or numbers i 0 }) (eb : b ≡ (entry_of s name).name) where
  -- one line more
  more : lengths (first_at s (i + 1) numbers) ≡ at + (42 + length b)
  more = lengths_more s numbers name b i en eb (omega arith) ∙ ap (λ (n : ℕ). n + (42 + length b)) (sym w.end)

  -- there is room for it
  pub write_room : lengths (first_at s held numbers) ≤ length start → at + (42 + length b) ≤ length buffer
  write_room l =
      let e : length buffer ≡ length start = w.sized in
      omega (arith, more, first_less s numbers (i + 1) held (omega arith))

  module _ (o : ℕ) (eo : o ≡ object_in (entry_of s name).packed) (p : List ℕ) (ep : p ≡ ref_line (record { name = b; object = o })) where
    line_at : p ≡ ref_line (ref_at s (get_or numbers i 0))
    line_at =
        ep
        ∙ ap₂ (λ (n : List ℕ) (x : ℕ). ref_line (record { name = n; object = x })) eb eo
        ∙ ap (λ (m : NameNumber). ref_line (ref_at s m.0)) en

    pub write_more : length (put at (at + (42 + length b) - at) buffer p) ≡ length buffer
        → Written s numbers held start (put at (at + (42 + length b) - at) buffer p) (i + 1) (at + (42 + length b))
    write_more z =
        let lines : List ℕ = collect ref_line (first_at s i numbers) in
        let long : length lines ≡ at = lines_length (first_at s i numbers) ∙ sym w.end in
        let e : at + (at + (42 + length b) - at) ≡ at + (42 + length b) = omega arith in
        let front : take at buffer ≡ lines = ap (take at) w.text ∙ take_at lines (drop at start) at long in
        let rest : drop (at + (42 + length b) - at) (drop at buffer) ≡ drop (at + (42 + length b)) start =
        ap (λ (xs : List ℕ). drop (at + (42 + length b) - at) (drop at xs)) w.text
        ∙ ap (drop (at + (42 + length b) - at)) (drop_at lines (drop at start) at long)
        ∙ drop-drop (at + (42 + length b) - at) at start
        ∙ ap (λ (n : ℕ). drop n start) e in
        let both : collect ref_line (first_at s (i + 1) numbers) ≡ lines ++ p =
        ap (collect ref_line) (first_more s numbers i (omega arith))
        ∙ collect_append ref_line (first_at s i numbers) (ref_at s (get_or numbers i 0) ∷ [])
        ∙ ap (λ (xs : List ℕ). lines ++ xs) (append-nil (ref_line (ref_at s (get_or numbers i 0))) ∙ sym line_at) in
        record {
          inside = omega arith;
          sized = z ∙ w.sized;
          end = sym more;
          text =
              ap₂ (λ (xs ys : List ℕ). xs ++ (p ++ ys)) front rest
              ∙ sym (append_assoc lines p (drop (at + (42 + length b)) start))
              ∙ ap (λ (xs : List ℕ). xs ++ drop (at + (42 + length b)) start) (sym both);
        }
