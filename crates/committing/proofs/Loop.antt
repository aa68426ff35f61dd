-- The loop over the places: two turns a place; what is left of the list, by the store as it is, comes to the same run. Assumes
-- nothing.
use Rattle.std.specs.Prelude.{Option, Some, None}
use mathlib.Core.Path.{◌≡◌, refl, sym, ap, ap₂, ◌∙◌, subst}
use mathlib.Core.Bool.{Bool}
use mathlib.Core.List.{List, [], ◌∷◌, ◌++◌}
use Prim.Native.Nat.{ℕ, suc, ◌+◌, ◌*◌, ◌-◌, ◌≤◌, ◌<◌}
use native.Mathlib.Omega.{arith}
use native.Mathlib.Numerals.{add-one}
use lib.ListN.{length}
use Rattle.word.specs.Flags.{Flags}
use Rattle.model.specs.Store.{Store, Prepared, count, rows_in}
use Rattle.model.specs.Due.{Stamp}
use Rattle.model.specs.Writes.{Write, apply, writes}
use Rattle.model.specs.Commit.{Run, lines_in, run, committing}
use Rattle.model.specs.Fine.{Fine}
use Rattle.model.specs.Demand3.{by}
use Rattle.model.proofs.FineEdit.{row_edit}
use Rattle.model.proofs.KeptCommit.{apply_room, lines_append, writes_lines}
use Rattle.model.proofs.RowFacts.{alone}
use Rattle.region.specs.Region.{view, Laid}
use Rattle.rows.specs.Rows.{Named, Apart}
use Rattle.rows.specs.Due.{lined}
use Rattle.writes.specs.Next.{rows_of, mode_of, first_at, second_at, places, ahead}
use Rattle.writes.specs.Told.{Told}
use Rattle.writes.proofs.Named.{fine_named, told_first, told_later}
use Rattle.writes.proofs.Steps.{first_stays, second_stays}
use Rattle.writes.proofs.Whole.{whole}
use Rattle.committing.specs.declared.Halt.{Halt}
use Rattle.committing.specs.declared.Halt.TheVariants.{NoCommitter, UsedUp}
use Rattle.committing.specs.declared.Ran.{Ran}
use Rattle.committing.specs.Running.{stop_of, rest, Turned, Placed, RanOut}
use Rattle.committing.proofs.Turned.{named_as, apart_as, either, turned_rows, turned_count}

-- ---- what the rules say of the rows

fine_apart : (s : Store) → Fine s → Apart (rows_of s)
fine_apart s f = record { apart = λ i j h g d e. alone s f j g i h d e }

-- ---- the run so far, with the writes that are left, by the store as it is

pub record On (c : ℕ) (z : Run) (r₀ : List ℕ) (left : Store → List Write) (n : ℕ) (at : Ran) (r : List ℕ) : Type 0 where
  pub laid : Laid r
  pub same : length r ≡ length r₀
  pub kept : (view r).prepared ≡ (view r₀).prepared
  pub many : count (view r) ≡ count (view r₀)
  pub room : length (view r).lines + lines_in (left (view r)) ≤ 1024
  pub made : at.made ≤ n
  pub comes : rest (by c) at (left (view r)) (view r) ≡ z

module _ (c : ℕ) (z : Run) (r₀ : List ℕ) (left : Store → List Write) (n : ℕ) (at : Ran) (r : List ℕ) (o : On c z r₀ left n at r) (f : Fine (view r₀)) where
  on_named : Named (view r)
  on_named = named_as (view r₀) (view r) o.kept o.many (fine_named (view r₀) f)

  on_apart : Apart (rows_of (view r))
  on_apart = apart_as (view r₀) (view r) o.kept (fine_apart (view r₀) f)

-- one turn: its write stands before what is left behind it, and leaves that
module _ (c : ℕ) (z : Run) (r₀ : List ℕ) (left left' : Store → List Write) (n : ℕ) (at b : Ran) (us : List Write) (r r' : List ℕ)
    (o : On c z r₀ left n at r) (split : left (view r) ≡ us ++ left' (view r))
    (stays : (w : Write) → us ≡ w ∷ [] → left' (apply w (view r)) ≡ left' (view r))
    (t : Turned (by c) at us b r r') (same : length r' ≡ length r) where
  behind : left' (view r') ≡ left' (view r)
  behind = either (by c) us at b r r' t (λ (s : Store). left' s ≡ left' (view r)) refl stays

  room_before : length (view r).lines + (lines_in us + lines_in (left' (view r))) ≤ 1024
  room_before = subst (λ (k : ℕ). length (view r).lines + k ≤ 1024) (ap lines_in split ∙ lines_append us (left' (view r))) o.room

  room_behind : length (view r').lines + lines_in (left' (view r)) ≤ 1024
  room_behind =
      either (by c) us at b r r' t (λ (s : Store). length s.lines + lines_in (left' (view r)) ≤ 1024) (omega (arith, room_before))
      (λ w e. apply_room w (left' (view r)) (view r) (subst (λ (ws : List Write). length (view r).lines + lines_in ws ≤ 1024) (split ∙ ap (λ (vs : List Write). vs ++ left' (view r)) e) o.room))

  turned_on : On c z r₀ left' (suc n) b r'
  turned_on = record {
    laid = t.laid;
    same = same ∙ o.same;
    kept = turned_rows (by c) us at b r r' t ∙ o.kept;
    many = turned_count (by c) us at b r r' t ∙ o.many;
    room = subst (λ (ws : List Write). length (view r').lines + lines_in ws ≤ 1024) (sym behind) room_behind;
    made = omega (arith, t.made, o.made);
    comes =
        ap (λ (ws : List Write). rest (by c) b ws (view r')) behind
        ∙ t.goes (left' (view r))
        ∙ ap (λ (ws : List Write). rest (by c) at ws (view r)) (sym split)
        ∙ o.comes;
  }

-- ---- by places: p of them

-- every place of the region: of 160 rows three each, and one
pub record Many (r₀ : List ℕ) (p : ℕ) : Type 0 where
  pub places : p ≡ places (view r₀)
  pub few : p ≤ 481

-- before place k, and between its first write and its second
pub record Before (c : ℕ) (z : Run) (r₀ : List ℕ) (flags : List Bool) (p k : ℕ) (at : Ran) (r : List ℕ) : Type 0 where
  pub on : On c z r₀ (λ s. ahead (by c) s k (p - k)) (k + k) at r
  pub told : Told flags (view r) (rows_of (view r)) k
  pub all : Many r₀ p
  pub upto : k ≤ p

record Between (c : ℕ) (z : Run) (r₀ : List ℕ) (flags : List Bool) (p k : ℕ) (at : Ran) (r : List ℕ) : Type 0 where
  pub on : On c z r₀ (λ s. second_at s k ++ ahead (by c) s (suc k) (p - suc k)) (suc (k + k)) at r
  pub told : Told flags (view r) (rows_of (view r)) (suc k)
  pub all : Many r₀ p
  pub upto : k < p

-- a place is left, then its second write and the later places
ahead_more : (stamp : Stamp) (s : Store) (k m n : ℕ) → m ≡ suc n → ahead stamp s k m ≡ first_at stamp s k ++ (second_at s k ++ ahead stamp s (suc k) n)
unfolding ahead
ahead_more stamp s k m n e = ap (ahead stamp s k) e

ahead_none : (stamp : Stamp) (s : Store) (k m : ℕ) → m ≡ 0 → ahead stamp s k m ≡ []
unfolding ahead
ahead_none stamp s k m e = ap (ahead stamp s k) e

-- no write is left
nothing_left : (stamp : Stamp) (a : Ran) (stop : Option Halt) (s : Store) → a.stop ≡ stop → record { store = s; made = a.made; stop = stop_of a.stop } ≡ rest stamp a [] s
unfolding rest run
nothing_left stamp a None s e = rw e refl
nothing_left stamp a (Some NoCommitter) s e = rw e refl
nothing_left stamp a (Some UsedUp) s e = rw e refl

module _ (c : ℕ) (z : Run) (r₀ : List ℕ) (flags : List Bool) (p k : ℕ) (at : Ran) (r : List ℕ) (f : Fine (view r₀)) where
  module _ (h : Before c z r₀ flags p k at r) where
    pub before_laid : Laid r
    before_laid = h.on.laid

    pub before_told : Told flags (view r) (rows_of (view r)) k
    before_told = h.told

    pub before_named : Named (view r)
    before_named = on_named c z r₀ _ _ at r h.on f

    pub before_apart : Apart (rows_of (view r))
    before_apart = on_apart c z r₀ _ _ at r h.on f

    same_places : places (view r) ≡ p
    same_places =
        ap (λ (o : Option Prepared). length (rows_in o) + length (rows_in o) + length (rows_in o) + 1) h.on.kept ∙ sym h.all.places

    pub before_place : k < p → k < places (view r)
    before_place l = omega (arith, same_places)

    pub before_made : k < p → at.made < 2000
    before_made l = omega (arith, h.on.made, h.all.few)

    split : k < p → ahead (by c) (view r) k (p - k) ≡ first_at (by c) (view r) k ++ (second_at (view r) k ++ ahead (by c) (view r) (suc k) (p - suc k))
    split l = ahead_more (by c) (view r) k (p - k) (p - suc k) (omega arith)

    pub before_room : k < p → length (view r).lines + lines_in (first_at (by c) (view r) k) ≤ 1024
    before_room l =
        let e : lines_in (ahead (by c) (view r) k (p - k)) ≡ lines_in (first_at (by c) (view r) k) + lines_in (second_at (view r) k ++ ahead (by c) (view r) (suc k) (p - suc k)) =
        ap lines_in (split l) ∙ lines_append (first_at (by c) (view r) k) _ in
        let g : length (view r).lines + lines_in (ahead (by c) (view r) k (p - k)) ≤ 1024 = h.on.room in
        omega arith

    first_behind : k < p → (w : Write) → first_at (by c) (view r) k ≡ w ∷ []
        → second_at (apply w (view r)) k ++ ahead (by c) (apply w (view r)) (suc k) (p - suc k) ≡ second_at (view r) k ++ ahead (by c) (view r) (suc k) (p - suc k)
    first_behind l w e =
        let st = first_stays (by c) (view r) before_apart k (p - suc k) (omega (arith, same_places)) w e in ap₂ ◌++◌ st.0 st.1

    first_told : (b : Ran) (r' : List ℕ) → k < p → Turned (by c) at (first_at (by c) (view r) k) b r r' → Told flags (view r') (rows_of (view r')) (suc k)
    first_told b r' l t =
        either (by c) (first_at (by c) (view r) k) at b r r' t (λ (s : Store). Told flags s (rows_of s) (suc k)) (told_later flags (view r) (rows_of (view r)) k (suc k) (omega arith) h.told)
        (λ w e. (first_stays (by c) (view r) before_apart k (p - suc k) (omega (arith, same_places)) w e).2 flags h.told)

    between : (b : Ran) (r' : List ℕ) → k < p → Turned (by c) at (first_at (by c) (view r) k) b r r' → length r' ≡ length r → Between c z r₀ flags p k b r'
    between b r' l t e = record {
      on = turned_on c z r₀ (λ s. ahead (by c) s k (p - k)) (λ s. second_at s k ++ ahead (by c) s (suc k) (p - suc k)) (k + k) at b
          (first_at (by c) (view r) k) r r' h.on (split l) (first_behind l) t e;
      told = first_told b r' l t;
      all = h.all;
      upto = l;
    }

    pub ran_out : p ≤ k → RanOut z at r
    ran_out l = record {
      laid = h.on.laid;
      run = nothing_left (by c) at at.stop (view r) refl ∙ ap (λ (ws : List Write). rest (by c) at ws (view r)) (sym (ahead_none (by c) (view r) k (p - k) (omega arith))) ∙ h.on.comes;
    }

  module _ (h : Between c z r₀ flags p k at r) where
    between_apart : Apart (rows_of (view r))
    between_apart = on_apart c z r₀ _ _ at r h.on f

    same_places_2 : places (view r) ≡ p
    same_places_2 =
        ap (λ (o : Option Prepared). length (rows_in o) + length (rows_in o) + length (rows_in o) + 1) h.on.kept ∙ sym h.all.places

    second_left : (w : Write) → second_at (view r) k ≡ w ∷ []
        → (ahead (by c) (apply w (view r)) (suc k) (p - suc k) ≡ ahead (by c) (view r) (suc k) (p - suc k)) × Told flags (apply w (view r)) (rows_of (apply w (view r))) (suc k)
    second_left w e =
        let st = second_stays (by c) (view r) between_apart k (p - suc k) (omega (arith, same_places_2, h.upto)) w e in (st.0, st.1 flags h.told)

    before_next : (b : Ran) (r' : List ℕ) → Turned (by c) at (second_at (view r) k) b r r' → length r' ≡ length r → Before c z r₀ flags p (k + 1) b r'
    before_next b r' t e =
        let g : Before c z r₀ flags p (suc k) b r' = record {
          on = subst (λ (m : ℕ). On c z r₀ (λ s. ahead (by c) s (suc k) (p - suc k)) m b r') (omega arith)
              (turned_on c z r₀ (λ s. second_at s k ++ ahead (by c) s (suc k) (p - suc k)) (λ s. ahead (by c) s (suc k) (p - suc k)) (suc (k + k)) at b
              (second_at (view r) k) r r' h.on refl (λ w e. (second_left w e).0) t e);
          told = either (by c) (second_at (view r) k) at b r r' t (λ (s : Store). Told flags s (rows_of s) (suc k)) h.told (λ w e. (second_left w e).1);
          all = h.all;
          upto = omega (arith, h.upto);
        } in
        subst (λ (j : ℕ). Before c z r₀ flags p j b r') (sym (add-one k)) g

-- one place: its first turn, and its second
pub place_done : (c : ℕ) (z : Run) (r₀ : List ℕ) (flags : List Bool) (p k : ℕ) (at b : Ran) (r r' : List ℕ) → Fine (view r₀) → Before c z r₀ flags p k at r → k < p
    → Placed (by c) at k b r r' → length r' ≡ length r → Before c z r₀ flags p (k + 1) b r'
place_done c z r₀ flags p k at b r r' f h l t e =
    before_next c z r₀ flags p k t.half t.between f (between c z r₀ flags p k at r f h t.half t.between l t.first t.size) b r' t.second (e ∙ sym t.size)

-- every place is ahead
pub before_start : (c allowance n : ℕ) (r : List ℕ) (flags : List Bool) → Laid r → Fine (view r) → Flags (lined (view r)) flags → c ≤ 65535
    → n ≡ length (rows_of (view r)) → Before c (committing (by c) allowance (view r)) r flags (n * 3 + 1) 0 (record { left = allowance; made = 0; stop = None }) r
unfolding rest committing
before_start c allowance n r flags l f up small en =
    let e : n * 3 + 1 - 0 ≡ places (view r) = omega arith in
    let w : ahead (by c) (view r) 0 (n * 3 + 1 - 0) ≡ writes (by c) (view r) = ap (ahead (by c) (view r) 0) e ∙ whole (by c) (view r) in
    record {
      on = record {
        laid = l;
        same = refl;
        kept = refl;
        many = refl;
        room =
            subst (λ (m : ℕ). length (view r).lines + m ≤ 1024)
            (sym (ap lines_in w ∙ writes_lines (by c) small (view r) (mode_of (view r)) (rows_of (view r)) (λ i h. row_edit (count (view r)) (rows_of (view r)) i (f.rows i h)))) f.room;
        made = omega arith;
        comes = ap (λ (ws : List Write). run (by c) allowance ws 0 (view r)) w;
      };
      told = told_first flags (view r) f up;
      all = record { places = omega arith; few = omega (arith, l.rows) };
      upto = omega arith;
    }
