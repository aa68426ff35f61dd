-- Committers by their bytes: where reading one stops, what is read, and how many there are. Assumes nothing.
use Rattle.std.specs.Prelude.{Option, Some, None}
use mathlib.Core.Path.{◌≡◌, refl, sym, ap, ap₂, ◌∙◌}
use mathlib.Core.Bool.{Bool, true, false, ◌&&◌, cond, and-true, and-false}
use mathlib.Core.List.{List, [], ◌∷◌}
use Prim.Native.Nat.{ℕ, zero, suc, ◌+◌, ◌-◌, ◌≤◌, ◌<◌}
use native.Mathlib.Omega.{arith}
use lib.ListN.{length, get_or, take, drop, length-drop}
use lib.Seq.{length-take-le, drop-drop}
use lib.Dec.{ltb, leb}
use mir.Syntax.{w8, w64}
use mir.Val.{Fits}
use borrow.Author.Tests.{leb-true, leb-false, lt-ltb, le-ltb, le-leb, lt-leb}
use Rattle.word.specs.Be.{Bytes, cut, val}
use Rattle.word.proofs.Be.{bytes_all, bytes_are, bytes_drop, bytes_take, val_cut}
use Rattle.model.specs.EditList.{◌>>=◌}
use Rattle.model.proofs.Binds.{none_some, some_is, some_then}
use Rattle.settings.specs.declared.Heading.{Heading}
use Rattle.settings.specs.Format.{Committer, Split, Named, within, follows, split, followed, committer_in, committers_in}
use Rattle.settings.proofs.Splits.{to_end, split_at, split_past, split_some}
use Rattle.settings.proofs.Committers.{one_further}
use Rattle.reader.specs.Reading.{heading_of, heading_in, count_in}

-- ---- one committer

abbrev named : ℕ → ℕ → Split → Option Named
named last x name =
    followed (follows last (record { number = x; name = name.front })) (record { number = x; name = name.front }) name.behind

-- behind its number and its name's length
behind_size : (last a b t : ℕ) (r : List ℕ)
    → committer_in last (a ∷ b ∷ t ∷ r) ≡ (split (val (t ∷ [])) r >>= named last (val (a ∷ b ∷ [])))
unfolding committer_in
behind_size last a b t r = rw (split_at 2 (a ∷ b ∷ t ∷ r) (omega arith), split_at 1 (t ∷ r) (omega arith))

pub heading_short : (last : ℕ) (r : List ℕ) → length r < 3 → None ≡ heading_in (committer_in last r)
unfolding committer_in split
heading_short last [] h = refl
heading_short last (a ∷ []) h = refl
heading_short last (a ∷ b ∷ []) h = refl
heading_short last (a ∷ b ∷ t ∷ r) h = absurd (omega arith)

-- what is tested of a committer whose bytes are bytes
tests : (last x n : ℕ) (r : List ℕ) → x < 65536 → n ≤ length r → Bytes r
    → follows last (record { number = x; name = take n r }) ≡ (ltb last x && within 1 32 n)
unfolding follows
tests last x n r f h b =
    let q : x ≤ 65535 = omega arith in
    rw (le-leb x 65535 q, length-take-le n r h, bytes_are (bytes_take n b), and-true (within 1 32 n))

-- one test decides, behind the name's length and in the whole list
behind_by : (last x n : ℕ) (r : List ℕ) → x < 65536 → Bytes r
    → heading_in (split n r >>= named last x)
    ≡ cond ((ltb last x && within 1 32 n) && leb n (length r)) (Some (record { number = x; length = n })) None
behind_by last x n r f b = go (leb n (length r)) refl
  where
    told : (q : Bool) (c : Committer) (behind : List ℕ) → heading_in (followed q c behind) ≡ cond q (Some (heading_of c)) None
    told true c behind = refl
    told false c behind = refl

    go : (w : Bool) → leb n (length r) ≡ w
        → heading_in (split n r >>= named last x)
        ≡ cond ((ltb last x && within 1 32 n) && w) (Some (record { number = x; length = n })) None
    go true e =
        let h : n ≤ length r = leb-true n (length r) e in
        rw (split_at n r h, and-true (ltb last x && within 1 32 n))
        (told (follows last (record { number = x; name = take n r })) (record { number = x; name = take n r }) (drop n r)
        ∙ ap₂ (λ (q : Bool) (k : ℕ). cond q (Some (record { number = x; length = k })) None) (tests last x n r f h b) (length-take-le n r h))
    go false e = rw (split_past n r (leb-false n (length r) e), and-false (ltb last x && within 1 32 n))

heading_by : (last : ℕ) (r : List ℕ) → ((i : ℕ) → Fits w8 (get_or r i 0)) → 3 ≤ length r
    → heading_in (committer_in last r)
    ≡ cond ((ltb last (val (cut 0 2 r)) && within 1 32 (val (cut 2 1 r))) && leb (val (cut 2 1 r)) (length r - 3))
    (Some (record { number = val (cut 0 2 r); length = val (cut 2 1 r) })) None
heading_by last [] b l = absurd (omega arith)
heading_by last (a ∷ []) b l = absurd (omega arith)
heading_by last (a ∷ c ∷ []) b l = absurd (omega arith)
heading_by last (a ∷ c ∷ t ∷ r) b l =
    let bytes : Bytes (a ∷ c ∷ t ∷ r) = bytes_all (a ∷ c ∷ t ∷ r) (λ i. (b i).fits) in
    let f : val (a ∷ c ∷ []) < 65536 = val_cut 0 2 bytes in
    let d : length r ≡ suc (suc (suc (length r))) - 3 = omega arith in
    ap heading_in (behind_size last a c t r)
    ∙ behind_by last (val (a ∷ c ∷ [])) (val (t ∷ [])) r f (bytes_drop 3 bytes)
    ∙ ap (λ (k : ℕ). cond ((ltb last (val (a ∷ c ∷ [])) && within 1 32 (val (t ∷ []))) && leb (val (t ∷ [])) k)
    (Some (record { number = val (a ∷ c ∷ []); length = val (t ∷ []) })) None) d

module _ (last x n : ℕ) (r : List ℕ) (b : (i : ℕ) → Fits w8 (get_or r i 0)) (l : 3 ≤ length r) (ex : x ≡ val (cut 0 2 r)) where
  pub heading_low : x ≤ last → None ≡ heading_in (committer_in last r)
  heading_low h = sym (heading_by last r b l ∙ rw (← ex, le-ltb last x h))

  module _ (en : n ≡ val (cut 2 1 r)) (g : last < x) where
    -- its number rises; the name's length is left
    by_length : heading_in (committer_in last r) ≡ cond (within 1 32 n && leb n (length r - 3)) (Some (record { number = x; length = n })) None
    by_length = heading_by last r b l ∙ rw (← ex, ← en, lt-ltb last x g)

    pub heading_empty : n ≡ 0 → None ≡ heading_in (committer_in last r)
    heading_empty h = sym (by_length ∙ rw h)

    pub heading_long : (n ≡ 0 → ⊥) → 32 < n → None ≡ heading_in (committer_in last r)
    heading_long z h = let q : 1 ≤ n = omega arith in sym (by_length ∙ rw (le-leb 1 n q, lt-leb n 32 h))

    pub heading_past : (n ≡ 0 → ⊥) → n ≤ 32 → length r - 3 < n → None ≡ heading_in (committer_in last r)
    heading_past z h k = let q : 1 ≤ n = omega arith in sym (by_length ∙ rw (le-leb 1 n q, le-leb n 32 h, lt-leb n (length r - 3) k))

    pub heading_is : (n ≡ 0 → ⊥) → n ≤ 32 → n ≤ length r - 3 → (h : Heading) → h ≡ record { number = x; length = n }
        → Some h ≡ heading_in (committer_in last r)
    heading_is z h k w e =
        let q : 1 ≤ n = omega arith in
        ap (λ (w : Heading). Some w) e ∙ sym (by_length ∙ rw (le-leb 1 n q, le-leb n 32 h, le-leb n (length r - 3) k))

-- ---- what a committer that was read is, by places

pub record Leads (r : List ℕ) (d : Named) : Type 0 where
  pub room : 3 + length d.committer.name ≤ length r
  pub number : d.committer.number ≡ val (cut 0 2 r)
  pub size : length d.committer.name ≡ val (cut 2 1 r)
  pub name : d.committer.name ≡ cut 3 (length d.committer.name) r
  pub behind : d.behind ≡ drop (3 + length d.committer.name) r

followed_some : (q : Bool) (c : Committer) (behind : List ℕ) (d : Named) → followed q c behind ≡ Some d
    → (c ≡ d.committer) × (behind ≡ d.behind)
followed_some true c behind d e = let q = some_is e in (ap (λ (d : Named). d.committer) q, ap (λ (d : Named). d.behind) q)
followed_some false c behind d e = absurd (none_some e)

leads_from : (r : List ℕ) (n : ℕ) (d : Named) → 3 ≤ length r → n ≤ length (drop 3 r) → d.committer.number ≡ val (cut 0 2 r) → n ≡ val (cut 2 1 r)
    → d.committer.name ≡ take n (drop 3 r) → d.behind ≡ drop n (drop 3 r) → Leads r d
leads_from r n d l h e f g b =
    let w : length d.committer.name ≡ n = ap length g ∙ length-take-le n (drop 3 r) h in
    let k : length (drop 3 r) ≡ length r - 3 = length-drop 3 r in
    record {
      room = omega arith;
      number = e;
      size = w ∙ f;
      name = g ∙ ap (λ (n : ℕ). cut 3 n r) (sym w);
      behind = b ∙ drop-drop n 3 r ∙ ap (λ (n : ℕ). drop (3 + n) r) (sym w);
    }

pub leads : (last : ℕ) (r : List ℕ) (d : Named) → committer_in last r ≡ Some d → Leads r d
unfolding committer_in
leads last r d h =
    some_then (split 2 r) _ d h λ number p h₁.
    some_then (split 1 number.behind) _ d h₁ λ size q h₂.
    some_then (split (val size.front) size.behind) _ d h₂ λ name u h₃.
    let a = split_some 2 r number p in
    let b = split_some 1 number.behind size q in
    let c = split_some (val size.front) size.behind name u in
    let x = val number.front in
    let f = followed_some (follows last (record { number = x; name = name.front })) (record { number = x; name = name.front }) name.behind d h₃ in
    let n = val size.front in
    let at : size.behind ≡ drop 3 r = b.2 ∙ ap (drop 1) a.2 ∙ drop-drop 1 2 r in
    let two : length number.behind ≡ length r - 2 = ap length a.2 ∙ length-drop 2 r in
    leads_from r n d (omega (arith, a.0, b.0)) (rw at at c.0)
    (ap (λ (c : Committer). c.number) (sym f.0) ∙ ap val a.1)
    (ap val (b.1 ∙ ap (take 1) a.2))
    (ap (λ (c : Committer). c.name) (sym f.0) ∙ c.1 ∙ ap (take n) at)
    (sym f.1 ∙ c.2 ∙ ap (drop n) at)

-- by its heading, which is all that the code keeps
pub heading_leads : (last : ℕ) (r : List ℕ) (o : Option Heading) (h : Heading) → o ≡ heading_in (committer_in last r)
    → o ≡ Some h
    → (3 + h.length ≤ length r)
    × (committer_in last r ≡ Some (record { committer = record { number = h.number; name = cut 3 h.length r }; behind = drop (3 + h.length) r }))
heading_leads last r o h e f = go (committer_in last r) refl (sym (f) ∙ e)
  where
    go : (w : Option Named) → committer_in last r ≡ w → Some h ≡ heading_in w
        → (3 + h.length ≤ length r)
        × (w ≡ Some (record { committer = record { number = h.number; name = cut 3 h.length r }; behind = drop (3 + h.length) r }))
    go None p q = absurd (none_some (sym q))
    go (Some d) p q =
        let s = leads last r d p in
        let t : heading_of d.committer ≡ h = some_is (sym q) in
        let x : d.committer.number ≡ h.number = ap (λ (h : Heading). h.number) t in
        let n : length d.committer.name ≡ h.length = ap (λ (h : Heading). h.length) t in
        let m : d.committer.name ≡ cut 3 h.length r = s.name ∙ ap (λ (n : ℕ). cut 3 n r) n in
        let b : d.behind ≡ drop (3 + h.length) r = s.behind ∙ ap (λ (n : ℕ). drop (3 + n) r) n in
        (omega (arith, s.room), ap (λ (d : Named). Some d) (same_named d x m b))
      where
        same_named : (d : Named) → d.committer.number ≡ h.number → d.committer.name ≡ cut 3 h.length r → d.behind ≡ drop (3 + h.length) r
            → d ≡ record { committer = record { number = h.number; name = cut 3 h.length r }; behind = drop (3 + h.length) r }
        same_named d x m b =
            ap₂ (λ (c : Committer) (b : List ℕ). record { committer = c; behind = b })
            (ap₂ (λ (x : ℕ) (m : List ℕ). record { number = x; name = m }) x m) b

pub heading_room : (last : ℕ) (r : List ℕ) (o : Option Heading) (h : Heading) → o ≡ heading_in (committer_in last r)
    → o ≡ Some h → 3 + h.length ≤ length r
heading_room last r o h e f = (heading_leads last r o h e f).0

-- ---- how many there are

-- one more
abbrev more : Option ℕ → Option ℕ
more None = None
more (Some n) = Some (n + 1)

one_more : (c : Committer) (w : Option (List Committer)) → count_in (w >>= λ others. Some (c ∷ others)) ≡ more (count_in w)
one_more c None = refl
one_more c (Some cs) = ap (λ (n : ℕ). Some n) (omega arith)

pub count_empty : (k last : ℕ) (r : List ℕ) → length r ≡ 0 → Some 0 ≡ count_in (committers_in k last r)
unfolding committers_in
count_empty zero last [] h = refl
count_empty (suc k) last [] h = refl
count_empty k last (b ∷ r) h = absurd (omega arith)

pub count_full : (k last : ℕ) (r : List ℕ) → (length r ≡ 0 → ⊥) → k ≡ 0 → None ≡ count_in (committers_in k last r)
unfolding committers_in
count_full zero last [] h e = absurd (h refl)
count_full zero last (b ∷ r) h e = refl
count_full (suc k) last r h e = absurd (omega arith)

-- the first, and the others behind it
pub counted : (k last : ℕ) (r : List ℕ) → (length r ≡ 0 → ⊥) → (k ≡ 0 → ⊥)
    → committers_in k last r
    ≡ (committer_in last r >>= λ first. committers_in (k - 1) first.committer.number first.behind >>= λ others. Some (first.committer ∷ others))
counted zero last r h z = absurd (z refl)
counted (suc k) last r h z = let e : suc k - 1 ≡ k = omega arith in rw e (one_further k last r (omega arith))

module _ (k last : ℕ) (r : List ℕ) (l : length r ≡ 0 → ⊥) (z : k ≡ 0 → ⊥) (o : Option Heading)
    (e : o ≡ heading_in (committer_in last r)) where
  pub count_none : o ≡ None → None ≡ count_in (committers_in k last r)
  count_none h = sym (ap count_in (counted k last r l z) ∙ go (committer_in last r) (sym (h) ∙ e))
    where
      go : (w : Option Named) → None ≡ heading_in w
          → count_in (w >>= λ first. committers_in (k - 1) first.committer.number first.behind >>= λ others. Some (first.committer ∷ others)) ≡ None
      go None q = refl
      go (Some d) q = absurd (none_some q)

  module _ (h : Heading) (f : o ≡ Some h) where
    module _ (u : Option ℕ)
        (g : u ≡ count_in (committers_in (k - 1) h.number (cut (3 + h.length) (length r - (3 + h.length)) r))) where
      by_others : count_in (committers_in k last r) ≡ more (u)
      by_others =
          let c : Committer = record { number = h.number; name = cut 3 h.length r } in
          let rest : Option (List Committer) = committers_in (k - 1) h.number (drop (3 + h.length) r) in
          ap count_in (counted k last r l z)
          ∙ ap (λ (w : Option Named). count_in (w >>= λ first. committers_in (k - 1) first.committer.number first.behind >>= λ others. Some (first.committer ∷ others)))
          (heading_leads last r o h e f).1
          ∙ one_more c rest
          ∙ ap (λ (l : List ℕ). more (count_in (committers_in (k - 1) h.number l))) (sym (to_end (3 + h.length) r))
          ∙ ap more (sym g)

      pub count_stops : u ≡ None → None ≡ count_in (committers_in k last r)
      count_stops q = sym (by_others ∙ ap (λ (u : Option ℕ). more (u)) q)

      pub count_more : (n : ℕ) → u ≡ Some n → Some (n + 1) ≡ count_in (committers_in k last r)
      count_more n q = sym (by_others ∙ ap (λ (u : Option ℕ). more (u)) q)

-- no more than there is room for
few : (k last : ℕ) (r : List ℕ) (cs : List Committer) → committers_in k last r ≡ Some cs → length cs ≤ k
unfolding committers_in
few zero last [] cs e = let q : length cs ≡ 0 = ap length (sym (some_is e)) in omega arith
few zero last (b ∷ r) cs e = absurd (none_some e)
few (suc k) last [] cs e = let q : length cs ≡ 0 = ap length (sym (some_is e)) in omega arith
few (suc k) last (b ∷ r) cs e =
    some_then (committer_in last (b ∷ r)) _ cs e λ first p e₁.
    some_then (committers_in k first.committer.number first.behind) _ cs e₁ λ others q e₂.
    let h : length others ≤ k = few k first.committer.number first.behind others q in
    let w : length cs ≡ suc (length others) = ap length (sym (some_is e₂)) in
    omega arith

pub count_few : (k last : ℕ) (r : List ℕ) (u : Option ℕ) (n : ℕ) → u ≡ count_in (committers_in k last r) → u ≡ Some n → n ≤ k
count_few k last r u n e h = go (committers_in k last r) refl (sym (h) ∙ e)
  where
    go : (w : Option (List Committer)) → committers_in k last r ≡ w → Some n ≡ count_in w → n ≤ k
    go None p q = absurd (none_some (sym q))
    go (Some cs) p q = let m : n ≡ length cs = some_is q in let f : length cs ≤ k = few k last r cs p in omega arith

pub count_fits : (k last : ℕ) (r : List ℕ) (u : Option ℕ) (n : ℕ) → u ≡ count_in (committers_in (k - 1) last r) → u ≡ Some n
    → (k ≡ 0 → ⊥) → Fits w64 k → Fits w64 (n + 1)
count_fits k last r u n e h z f = let m : n ≤ k - 1 = count_few (k - 1) last r u n e h in record { fits = omega (arith, f.fits) }
