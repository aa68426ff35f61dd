-- A committer by its place in any record: each of the ways out, and that its name ends in the record. Assumes nothing.
use Rattle.std.specs.Prelude.{Result, Ok, Err}
use mathlib.Core.Path.{◌≡◌, refl, sym, ap, ◌∙◌}
use mathlib.Core.Bool.{Bool, true, false, cond}
use mathlib.Core.List.{List}
use Prim.Native.Nat.{ℕ, ◌+◌, ◌-◌, ◌≤◌, ◌<◌}
use native.Mathlib.Omega.{arith}
use lib.ListN.{length}
use lib.Dec.{ltb}
use borrow.Author.Tests.{ltb-true, lt-ltb}
use Rattle.word.specs.Be.{cut, val}
use Rattle.word.proofs.Cut.{length_cut}
use Rattle.model.specs.declared.Refusal.{Refusal}
use Rattle.model.specs.declared.Refusal.TheVariants.{NothingThere}
use Rattle.model.proofs.Binds.{refuse_pass, pass_is}
use Rattle.settings.specs.Format.{Committer, Settings, read}
use Rattle.settings.specs.Lent.{name_in}
use Rattle.settings.proofs.Whole.{list_stands}
use Rattle.reader.specs.declared.Summary.{Summary}
use Rattle.reader.specs.declared.Stretch.{Stretch}
use Rattle.reader.specs.Reading.{summary_of, told, committers_of, placed, content_at, Lists, from_first, stretch_of, committer_found}
use Rattle.reader.proofs.Places.{place_room}

-- what was told was read
passed_told : (m : Summary) (w : Result Settings Refusal) → Ok m ≡ told w → (s : Settings) × (w ≡ Ok s) × (m ≡ summary_of s)
passed_told m (Err y) e = absurd (refuse_pass (sym e))
passed_told m (Ok s) e = (s, refl, pass_is e)

-- ---- a committer of a record that was read

module _ (known : ℕ) (r : List ℕ) (s : Settings) (e : read known r ≡ Ok s) where
  its_list : committers_of 16 0 (content_at r) ≡ s.committers
  unfolding committers_of
  its_list = rw (list_stands known r s e).2

  its_place : (i : ℕ) → i < length s.committers → Lists i r
  its_place i h =
      let l = list_stands known r s e in
      let w : length (committers_of 16 0 (content_at r)) ≡ length s.committers = ap length its_list in
      record { tag = l.0; whole = l.1; there = omega arith }

  -- its name ends in the record
  its_room : (i : ℕ) → i < length s.committers → (stretch_of i s).at + (stretch_of i s).length ≤ length r
  its_room i h =
      let l = its_place i h in
      let p = place_room i 16 0 (content_at r) l.there in
      let d : length (content_at r) ≡ val (cut 11 2 r) - 1 = length_cut 14 (val (cut 11 2 r) - 1) r (omega (arith, l.tag, l.whole)) in
      let a : placed i (committers_of 16 0 (content_at r)) ≡ placed i s.committers = ap (placed i) its_list in
      let at : name_in i (committers_of 16 0 (content_at r)) ≡ name_in i s.committers = ap (λ (s : Stretch). s.at) a in
      let size : (placed i (committers_of 16 0 (content_at r))).length ≡ (placed i s.committers).length = ap (λ (s : Stretch). s.length) a in
      omega (arith, l.tag, l.whole)

-- ---- reading one

module _ (known i : ℕ) (r : List ℕ) (o : (Result Summary Refusal)) (e : o ≡ told (read known r)) where
  module _ (m : Summary) (h : o ≡ Ok m) where
    was_read : (s : Settings) × (read known r ≡ Ok s) × (m ≡ summary_of s)
    was_read = passed_told m (read known r) (sym (h) ∙ e)

    module _ (l : i < m.committers) where
      pub found_lists : Lists i r
      found_lists =
          let s = was_read in
          let n : m.committers ≡ length s.0.committers = ap (λ (m : Summary). m.committers) s.2 in
          its_place known r s.0 s.1 i (omega arith)

      pub found_is : (f : Stretch) → f ≡ from_first (placed i (committers_of 16 0 (content_at r))) → Ok f ≡ committer_found i (read known r)
      found_is f g =
          let s = was_read in
          let n : m.committers ≡ length s.0.committers = ap (λ (m : Summary). m.committers) s.2 in
          let q : i < length s.0.committers = omega arith in
          ap Ok (g ∙ ap (λ (cs : List Committer). from_first (placed i cs)) (its_list known r s.0 s.1))
          ∙ sym (ap (committer_found i) s.1 ∙ ap (λ (t : Bool). cond t (Ok (stretch_of i s.0)) (Err NothingThere)) (lt-ltb i (length s.0.committers) q))

-- ---- its name as a part

module _ (known i : ℕ) (r : List ℕ) (o : (Result Stretch Refusal)) (e : o ≡ committer_found i (read known r)) where
  module _ (f : Stretch) (h : o ≡ Ok f) where
    pub part_room : f.at + f.length ≤ length r
    part_room = go (read known r) refl (sym (h) ∙ e)
      where
        there : (s : Settings) → read known r ≡ Ok s → (t : Bool) → ltb i (length s.committers) ≡ t
            → Ok f ≡ cond t (Ok (stretch_of i s)) (Err NothingThere) → f.at + f.length ≤ length r
        there s p true b q =
            let w : f ≡ stretch_of i s = pass_is q in
            let a : f.at ≡ (stretch_of i s).at = ap (λ (f : Stretch). f.at) w in
            let l : f.length ≡ (stretch_of i s).length = ap (λ (f : Stretch). f.length) w in
            let d = its_room known r s p i (ltb-true i (length s.committers) b) in
            omega arith
        there s p false b q = absurd (refuse_pass (sym q))

        go : (w : Result Settings Refusal) → read known r ≡ w → Ok f ≡ committer_found i w → f.at + f.length ≤ length r
        go (Err x) p q = absurd (refuse_pass (sym q))
        go (Ok s) p q = there s p (ltb i (length s.committers)) refl q
