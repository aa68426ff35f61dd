-- A committer by its place in a list: the first, and one of those behind it. Assumes nothing.
use Rattle.std.specs.Prelude.{Option, Some, None, unwrap_or}
use mathlib.Core.Path.{◌≡◌, refl, sym, ap, ap₂, ◌∙◌}
use mathlib.Core.List.{List, [], ◌∷◌}
use Prim.Native.Nat.{ℕ, zero, suc, ◌+◌, ◌-◌, ◌≤◌, ◌<◌}
use native.Mathlib.Omega.{arith}
use lib.ListN.{length, get_or, drop, length-drop}
use Rattle.word.specs.Be.{cut, val}
use Rattle.word.proofs.Cut.{length_cut}
use Rattle.model.specs.EditList.{◌>>=◌}
use Rattle.settings.specs.Format.{Committer, Named, listed, committer_in, committers_in}
use Rattle.settings.specs.Lent.{no_committer, name_in}
use Rattle.settings.proofs.Splits.{to_end}
use Rattle.settings.proofs.Committers.{listed_length}
use Rattle.reader.specs.declared.Stretch.{Stretch}
use Rattle.reader.specs.Reading.{committers_of, placed, content_at, Lists, from_first}
use Rattle.reader.proofs.Committers.{Leads, leads}

-- ---- a list that has a committer

pub record Chain (k last : ℕ) (r : List ℕ) : Type 0 where
  pub first : Named
  pub others : List Committer
  pub room : 1 ≤ k
  pub lead : Leads r first
  pub whole : committers_of k last r ≡ first.committer ∷ others
  pub rest : committers_of (k - 1) first.committer.number first.behind ≡ others

pub chain : (k last : ℕ) (r : List ℕ) → 0 < length (committers_of k last r) → Chain k last r
unfolding committers_of committers_in
chain zero last [] h = absurd (omega arith)
chain zero last (b ∷ r) h = absurd (omega arith)
chain (suc k) last [] h = absurd (omega arith)
chain (suc k) last (b ∷ r) h = go (committer_in last (b ∷ r)) refl h
  where
    ends : (first : Named) → committer_in last (b ∷ r) ≡ Some first
        → (w : Option (List Committer)) → committers_in k first.committer.number first.behind ≡ w
        → 0 < length (unwrap_or (w >>= λ others. Some (first.committer ∷ others)) []) → Chain (suc k) last (b ∷ r)
    ends first p None q h = absurd (omega arith)
    ends first p (Some others) q h = record {
      first = first;
      others = others;
      room = omega arith;
      lead = leads last (b ∷ r) first p;
      whole = rw (p, q);
      rest =
          let e : suc k - 1 ≡ k = omega arith in
          ap (λ (k : ℕ). unwrap_or (committers_in k first.committer.number first.behind) []) e ∙ rw q;
    }

    go : (y : Option Named) → committer_in last (b ∷ r) ≡ y
        → 0 < length (unwrap_or (y >>= λ first. committers_in k first.committer.number first.behind >>= λ others. Some (first.committer ∷ others)) [])
        → Chain (suc k) last (b ∷ r)
    go None p h = absurd (omega arith)
    go (Some first) p h = ends first p (committers_in k first.committer.number first.behind) refl h

-- ---- what stands where

-- a name ends in the list
pub place_room : (i k last : ℕ) (r : List ℕ) → i < length (committers_of k last r)
    → name_in i (committers_of k last r) + length (get_or (committers_of k last r) i no_committer).name ≤ length r
unfolding name_in
place_room zero k last r h =
    let c = chain k last r h in
    let e : name_in 0 (committers_of k last r) + length (get_or (committers_of k last r) 0 no_committer).name ≡ 3 + length c.first.committer.name =
    ap (λ (cs : List Committer). name_in 0 cs + length (get_or cs 0 no_committer).name) c.whole in
    omega (arith, c.lead.room)
place_room (suc i) k last r h =
    let c = chain k last r (omega arith) in
    let cs = committers_of (k - 1) c.first.committer.number c.first.behind in
    let w : length (committers_of k last r) ≡ suc (length cs) = ap length c.whole ∙ ap (λ (cs : List Committer). suc (length cs)) (sym c.rest) in
    let j = place_room i (k - 1) c.first.committer.number c.first.behind (omega arith) in
    let b : length c.first.behind ≡ length r - (3 + length c.first.committer.name) =
    ap length c.lead.behind ∙ length-drop (3 + length c.first.committer.name) r in
    let e : name_in (suc i) (committers_of k last r) + length (get_or (committers_of k last r) (suc i) no_committer).name
    ≡ length (listed c.first.committer) + name_in i cs + length (get_or cs i no_committer).name =
    ap (λ (cs : List Committer). name_in (suc i) cs + length (get_or cs (suc i) no_committer).name) c.whole
    ∙ ap (λ (cs : List Committer). length (listed c.first.committer) + name_in i cs + length (get_or cs i no_committer).name) (sym c.rest) in
    omega (arith, c.lead.room, listed_length c.first.committer)

module _ (i k last : ℕ) (r : List ℕ) (h : i < length (committers_of k last r)) where
  pub number_there : 2 ≤ length r
  number_there = let c = chain k last r (omega arith) in omega (arith, c.lead.room)

  pub size_there : 3 ≤ length r
  size_there = let c = chain k last r (omega arith) in omega (arith, c.lead.room)

  pub room_there : 1 ≤ k
  room_there = (chain k last r (omega arith)).room

  module _ (x n : ℕ) (ex : x ≡ val (cut 0 2 r)) (en : n ≡ val (cut 2 1 r)) where
    pub first_placed : i ≡ 0 → (s : Stretch) → s ≡ record { number = x; at = 3; length = n } → s ≡ placed i (committers_of k last r)
    unfolding name_in
    first_placed z s e =
        let c = chain k last r (omega arith) in
        e
        ∙ ap₂ (λ (x n : ℕ). record { number = x; at = 3; length = n }) (ex ∙ sym c.lead.number) (en ∙ sym c.lead.size)
        ∙ ap (placed 0) (sym c.whole)
        ∙ ap (λ (i : ℕ). placed i (committers_of k last r)) (sym z)

    pub behind_room : 3 + n ≤ length r
    behind_room = let c = chain k last r (omega arith) in omega (arith, c.lead.room, c.lead.size)

    -- the first, and those behind it
    apart : (c : Committer)
        × (committers_of k last r ≡ c ∷ committers_of (k - 1) x (cut (3 + n) (length r - (3 + n)) r))
        × (length (listed c) ≡ 3 + n)
    apart =
        let c = chain k last r (omega arith) in
        let l : length c.first.committer.name ≡ n = c.lead.size ∙ sym en in
        let b : c.first.behind ≡ cut (3 + n) (length r - (3 + n)) r =
        c.lead.behind ∙ ap (λ (n : ℕ). drop (3 + n) r) l ∙ sym (to_end (3 + n) r) in (
          c.first.committer,
          c.whole
              ∙ ap (λ (cs : List Committer). c.first.committer ∷ cs)
              (sym c.rest ∙ ap₂ (λ (x : ℕ) (l : List ℕ). committers_of (k - 1) x l) (c.lead.number ∙ sym ex) b),
          listed_length c.first.committer ∙ ap (λ (n : ℕ). 3 + n) l,
        )

    module _ (z : i ≡ 0 → ⊥) where
      pub next_there : i - 1 < length (committers_of (k - 1) x (cut (3 + n) (length r - (3 + n)) r))
      next_there = let a = apart in let w = ap length a.1 in omega arith

      module _ (f : Stretch) (e : f ≡ placed (i - 1) (committers_of (k - 1) x (cut (3 + n) (length r - (3 + n)) r))) where
        pub next_placed : (s : Stretch) → s ≡ record { number = f.number; at = 3 + n + f.at; length = f.length } → s ≡ placed i (committers_of k last r)
        unfolding name_in
        next_placed s g =
            let a = apart in
            let j : suc (i - 1) ≡ i = omega arith in
            g
            ∙ ap (λ (f : Stretch). record { number = f.number; at = 3 + n + f.at; length = f.length }) e
            ∙ ap (λ (m : ℕ). shifted m (committers_of (k - 1) x (cut (3 + n) (length r - (3 + n)) r))) (sym a.2)
            ∙ ap₂ placed j (sym a.1)
          where
            shifted : ℕ → List Committer → Stretch
            shifted m cs = record { number = (get_or cs (i - 1) no_committer).number; at = m + name_in (i - 1) cs; length = length (get_or cs (i - 1) no_committer).name }

        pub next_at : 3 + n + f.at ≤ length r
        next_at =
            let p = place_room (i - 1) (k - 1) x (cut (3 + n) (length r - (3 + n)) r) next_there in
            let w : f.at ≡ name_in (i - 1) (committers_of (k - 1) x (cut (3 + n) (length r - (3 + n)) r)) = ap (λ (f : Stretch). f.at) e in
            let l : length (cut (3 + n) (length r - (3 + n)) r) ≡ length r - (3 + n) = ap length (to_end (3 + n) r) ∙ length-drop (3 + n) r in
            omega (arith, behind_room)

-- ---- in the record

module _ (i n : ℕ) (r : List ℕ) (l : Lists i r) (e : n ≡ val (cut 11 2 r)) where
  content : cut 14 (13 + n - 14) r ≡ content_at r
  content =
      let w : 13 + n - 14 ≡ val (cut 11 2 r) - 1 = omega arith in
      ap (λ (k : ℕ). cut 14 k r) w

  pub content_start : 14 ≤ 13 + n
  content_start = omega (arith, l.tag)

  pub content_end_lem : 13 + n ≤ length r
  content_end_lem = omega (arith, l.whole)

  pub content_there : i < length (committers_of 16 0 (cut 14 (13 + n - 14) r))
  content_there = let w = ap (λ (l : List ℕ). length (committers_of 16 0 l)) content in omega (arith, l.there)

  module _ (f : Stretch) (g : f ≡ placed i (committers_of 16 0 (cut 14 (13 + n - 14) r))) where
    pub from_first_lem : (s : Stretch) → s ≡ record { number = f.number; at = 14 + f.at; length = f.length }
        → s ≡ from_first (placed i (committers_of 16 0 (content_at r)))
    from_first_lem s h = h ∙ ap from_first (g ∙ ap (λ (l : List ℕ). placed i (committers_of 16 0 l)) content)

    pub found_at : 14 + f.at ≤ length r
    found_at =
        let p = place_room i 16 0 (cut 14 (13 + n - 14) r) content_there in
        let w : f.at ≡ name_in i (committers_of 16 0 (cut 14 (13 + n - 14) r)) = ap (λ (f : Stretch). f.at) g in
        let d : length (cut 14 (13 + n - 14) r) ≡ 13 + n - 14 = length_cut 14 (13 + n - 14) r (omega (arith, l.tag, l.whole)) in
        omega (arith, l.tag, l.whole)
