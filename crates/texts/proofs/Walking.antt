-- A text from line to line: what a step leaves, and what the lines before a place say. Assumes nothing.
use Rattle.std.specs.Prelude.{Option, Some, None, Result, Ok}
use Rattle.std.proofs.Common.{ControlFlow, Break}
use Rattle.model.specs.declared.Refusal.{Refusal}
use mathlib.Core.Path.{◌≡◌, refl, sym, ap, ap₂, subst, ◌∙◌}
use mathlib.Core.Bool.{true, false, false≢true}
use mathlib.Core.List.{List, [], ◌∷◌, ◌++◌, append-nil, append_assoc}
use Prim.Native.Nat.{ℕ, suc, ◌+◌, ◌-◌, ◌^◌, ◌≤◌, ◌<◌}
use native.Mathlib.Omega.{arith}
use lib.ListN.{length, take, drop, length-append, length-drop}
use lib.Seq.{take-add, take-length, drop-length, drop-drop, drop_at, length-take-le}
use borrow.Author.Tests.{ne_eqb}
use Rattle.word.specs.Be.{cut}
use Rattle.word.specs.Codec.{is_some}
use Rattle.model.specs.Basic.{collect}
use Rattle.model.specs.Names.{pieces}
use Rattle.model.specs.PackedText.{Ref, ref_in, Reading, read_on, read_lines, read_text}
use Rattle.model.proofs.Digits.{ref_reaches, ref_name}
use Rattle.model.proofs.TextLines.{some_piece, Says, line_says, says_nothing, read_more}
use Rattle.names.specs.Parts.{up_to}
use Rattle.names.proofs.Bytes.{to_end}
use Rattle.names.proofs.Pieces.{after, first_then, byte_within, parts_first, parts_left, parts_then}
use Rattle.texts.specs.declared.Said.{Said}
use Rattle.texts.specs.declared.Said.TheVariants as said
use Rattle.texts.specs.declared.walk.Ending.{Ending}
use Rattle.texts.specs.declared.walk.Ending.TheVariants as ending
use Rattle.texts.specs.declared.walk.Place.{Place}
use Rattle.texts.specs.Lines.{said_by, SaysLine}
use Rattle.texts.specs.Walk.{refs_of, refs_in, first_refs, unended_as, past_as, Roomy, read_from, onto, At, end_by, Goes, Checks}

-- ---- a step

ended_not : (n : ℕ) → (n ≡ 0 → ⊥) → Break ending.Malformed ≡ unended_as n
ended_not n e = rw (ne_eqb n 0 e)

-- ---- the refs of the first lines

collect_append : {A B : Type 0} (f : A → List B) (xs ys : List A) → collect f (xs ++ ys) ≡ collect f xs ++ collect f ys
collect_append f [] ys = refl
collect_append f (x ∷ xs) ys = ap (λ (l : List _). f x ++ l) (collect_append f xs ys) ∙ sym (append_assoc (f x) (collect f xs) (collect f ys))

-- with one line more
module _ (t : List ℕ) (k : ℕ) (l : List ℕ) (ps : List (List ℕ)) (e : drop k (pieces 10 t) ≡ l ∷ ps) where
  -- so many lines there are
  pub lines_before : k < length (pieces 10 t)
  lines_before =
      let a : length (drop k (pieces 10 t)) ≡ suc (length ps) = ap length e in
      omega (arith, length-drop k (pieces 10 t))

  pub line_next : drop (k + 1) (pieces 10 t) ≡ ps
  line_next = sym (drop-drop 1 k (pieces 10 t)) ∙ ap (drop 1) e

  pub first_more : first_refs (k + 1) t ≡ first_refs k t ++ refs_of (ref_in l)
  unfolding first_refs
  first_more =
      ap refs_in (take-add k 1 (pieces 10 t) ∙ ap (λ (x : List (List ℕ)). take k (pieces 10 t) ++ take 1 x) e)
      ∙ collect_append (λ (l : List ℕ). refs_of (ref_in l)) (take k (pieces 10 t)) (l ∷ [])
      ∙ ap (λ (x : List Ref). first_refs k t ++ x) (append-nil (refs_of (ref_in l)))

-- behind refs, behind refs
onto_onto : (rs qs : List Ref) (x : Reading) → onto rs (onto qs x) ≡ onto (rs ++ qs) x
onto_onto rs qs x = ap (λ (l : List Ref). record { refs = l; end = x.end }) (sym (append_assoc rs qs x.refs))

some_of : {A : Type 0} (o : Option A) → is_some o ≡ true → (a : A) × (o ≡ Some a)
some_of None h = absurd (false≢true h)
some_of (Some a) h = (a, refl)

-- without a line feed there is one piece
pub one_piece : (l : List ℕ) → up_to 10 l ≡ length l → pieces 10 l ≡ l ∷ []
one_piece l e = first_then 10 l ∙ ap (λ (k : ℕ). take k l ∷ after 10 (drop k l)) e ∙ ap₂ (λ (a b : List ℕ). a ∷ after 10 b) (take-length l) (drop-length l)

-- the name of a line, as a part of the text
name_cut : (t : List ℕ) (at n : ℕ) → 41 ≤ n → n ≤ length (drop at t) → drop 41 (take n (drop at t)) ≡ cut (at + 41) (at + n - (at + 41)) t
name_cut t at n h l =
    let k : at + n - (at + 41) ≡ n - 41 = omega arith in
    let j : n ≡ 41 + (n - 41) = omega arith in
    let s : length (take 41 (drop at t)) ≡ 41 = length-take-le 41 (drop at t) (omega arith) in
    ap (λ (m : ℕ). drop 41 (take m (drop at t))) j
    ∙ ap (drop 41) (take-add 41 (n - 41) (drop at t))
    ∙ drop_at (take 41 (drop at t)) (take (n - 41) (drop 41 (drop at t))) 41 s
    ∙ ap₂ (λ (m : ℕ) (l : List ℕ). take m l) (sym k) (drop-drop 41 at t)

-- ---- at a place

-- nothing is read before the first line
start : (t : List ℕ) → At t (record { at = 0; lines = 0; refs = 0; last = 0; end = 0; direct = false })
unfolding first_refs read_from read_text
start t = record {
  inside = omega arith;
  name = omega arith;
  named = omega arith;
  few = omega arith;
  fewer = omega arith;
  left = refl;
  refs = refl;
  reads = refl;
}

pub at_start : (t : List ℕ) (p : Place) → p.at ≡ 0 → p.lines ≡ 0 → p.refs ≡ 0 → p.last ≡ 0 → p.end ≡ 0 → p.direct ≡ false → At t p
at_start t p a b c d e f =
    let first : p ≡ record { at = 0; lines = 0; refs = 0; last = 0; end = 0; direct = false } =
    λ i. record { at = a i; lines = b i; refs = c i; last = d i; end = e i; direct = f i } in
    subst (At t) (sym first) (start t)

module _ (t : List ℕ) (p : Place) (here : At t p) (n : ℕ) (e : n ≡ up_to 10 (take (length t - p.at) (drop p.at t))) where
  rest : List ℕ
  rest = drop p.at t

  up : n ≡ up_to 10 rest
  unfolding rest
  up = e ∙ ap (up_to 10) (to_end t p.at)

  room : length rest ≡ length t - p.at
  unfolding rest
  room = length-drop p.at t

  pub line_part : n ≡ length (take n (take (length t - p.at) (drop p.at t)))
  line_part = parts_first 10 (take (length t - p.at) (drop p.at t)) n e

  pub roomy : length t < 2 ^ 63 → Roomy p n
  roomy h =
      let a : n ≤ length rest = subst (λ (k : ℕ). k ≤ length rest) (sym up) (byte_within 10 rest) in
      let b : p.at ≤ length t = here.inside in
      let c : p.lines ≤ p.at = here.few in
      let d : p.refs ≤ p.lines = here.fewer in
      record { at = omega (arith, room); name = omega arith; lines = omega arith; refs = omega arith }

  -- the rest has no line feed: nothing is there, or a line without one
  pub stops : n ≡ length (take (length t - p.at) (drop p.at t)) → (r : ControlFlow Ending Place) → r ≡ unended_as n → Goes t p r
  unfolding read_from read_lines rest
  stops q r s = subst (Goes t p) (sym s) (go (drop p.at t) refl (q ∙ ap length (to_end t p.at)))
    where
      full : (xs : List ℕ) → n ≡ suc (length xs) → n ≡ 0 → ⊥
      full xs z e = omega arith

      go : (l : List ℕ) → drop p.at t ≡ l → n ≡ length l → Goes t p (unended_as n)
      go [] w z =
          subst (λ (k : ℕ). Goes t p (unended_as k)) (sym z)
          (ap (λ (l : List ℕ). read_lines (pieces 10 l) (p.lines + 1) (cut p.last (p.end - p.last) t) p.direct) w)
      go (x ∷ xs) w z =
          subst (Goes t p) (ended_not n (full xs z))
          (ap (λ (l : List ℕ). read_lines (pieces 10 l) (p.lines + 1) (cut p.last (p.end - p.last) t) p.direct) w
          ∙ ap (λ (ps : List (List ℕ)). read_lines ps (p.lines + 1) (cut p.last (p.end - p.last) t) p.direct)
          (one_piece (x ∷ xs) (ap (up_to 10) (sym w) ∙ sym up ∙ z)))

  -- it has one
  module _ (d : n ≡ length (take (length t - p.at) (drop p.at t)) → ⊥) where
    i : ℕ
    i = p.lines + 1

    last : List ℕ
    last = cut p.last (p.end - p.last) t

    others : List (List ℕ)
    others = pieces 10 (drop (n + 1) (drop p.at t))

    ends : n ≡ length (drop p.at t) → ⊥
    ends q = d (q ∙ ap length (sym (to_end t p.at)))

    splits : pieces 10 (drop p.at t) ≡ take n (drop p.at t) ∷ others
    unfolding others rest
    splits = parts_then 10 (drop p.at t) n up ends

    inside : p.at + n + 1 ≤ length t
    unfolding rest
    inside =
        let a : n + 1 ≤ length (drop p.at t) = parts_left 10 (drop p.at t) n up ends in
        let b : p.at ≤ length t = here.inside in
        omega (arith, room)

    onward : others ≡ pieces 10 (drop (p.at + n + 1) t)
    unfolding others
    onward =
        let k : p.at + (n + 1) ≡ p.at + n + 1 = omega arith in
        ap (pieces 10) (drop-drop (n + 1) p.at t ∙ ap (λ (m : ℕ). drop m t) k)

    left : drop (p.lines + 1) (pieces 10 t) ≡ pieces 10 (drop (p.at + n + 1) t)
    left = line_next t p.lines (take n (drop p.at t)) others (here.left ∙ splits) ∙ onward

    first : first_refs (p.lines + 1) t ≡ first_refs p.lines t ++ refs_of (ref_in (take n (drop p.at t)))
    first = first_more t p.lines (take n (drop p.at t)) others (here.left ∙ splits)

    module _ (s : Said) (h : SaysLine s last p.direct (take n (drop p.at t))) where
      line : List ℕ
      line = take n (drop p.at t)

      reads_on : read_from t p ≡ read_on i last (said_by s i line) (read_lines others)
      unfolding read_from others last i line
      reads_on =
          ap (λ (ps : List (List ℕ)). read_lines ps i last p.direct) splits
          ∙ read_more line others i last p.direct (some_piece 10 (drop (n + 1) (drop p.at t)))
          ∙ ap (λ (o : Result (Option Ref) Refusal). read_on i last o (read_lines others)) (sym (h.says i))

    -- nothing is said
    on_nothing : SaysLine said.Nothing last p.direct (take n (drop p.at t))
        → At t (record { at = p.at + n + 1; lines = p.lines + 1; refs = p.refs; last = p.last; end = p.end; direct = false })
    unfolding read_from last i line
    on_nothing h =
        let silent : ref_in (take n (drop p.at t)) ≡ None =
        says_nothing p.direct (take n (drop p.at t)) (subst (Says last p.direct (take n (drop p.at t))) (sym (h.says i)) (line_says i last p.direct (take n (drop p.at t)))) in
        let same : first_refs (p.lines + 1) t ≡ first_refs p.lines t =
        first ∙ ap (λ (o : Option Ref). first_refs p.lines t ++ refs_of o) silent ∙ append-nil (first_refs p.lines t) in
        let a : p.lines ≤ p.at = here.few in
        let b : p.refs ≤ p.lines = here.fewer in
        record {
          inside = inside;
          name = here.name;
          named = here.named;
          few = omega arith;
          fewer = omega arith;
          left = left;
          refs = here.refs ∙ ap length (sym same);
          reads =
              here.reads
              ∙ ap₂ onto (sym same) (reads_on said.Nothing h ∙ ap (λ (ps : List (List ℕ)). read_lines ps (i + 1) last false) onward);
        }

    -- a ref is said
    on_ref : SaysLine said.Ref last p.direct (take n (drop p.at t))
        → At t (record { at = p.at + n + 1; lines = p.lines + 1; refs = p.refs + 1; last = p.at + 41; end = p.at + n; direct = true })
    unfolding read_from last i line rest
    on_ref h =
        let k : (r : Ref) × (ref_in (take n (drop p.at t)) ≡ Some r) = some_of (ref_in (take n (drop p.at t))) h.sure in
        let r : Ref = k.0 in
        let wide : 41 ≤ length (take n (drop p.at t)) = ref_reaches (take n (drop p.at t)) r k.1 in
        let size : n ≡ length (take n (drop p.at t)) = parts_first 10 (drop p.at t) n up in
        let more : first_refs (p.lines + 1) t ≡ first_refs p.lines t ++ (r ∷ []) = first ∙ ap (λ (o : Option Ref). first_refs p.lines t ++ refs_of o) k.1 in
        let name : r.name ≡ cut (p.at + 41) (p.at + n - (p.at + 41)) t = ref_name (take n (drop p.at t)) r k.1 ∙ name_cut t p.at n (omega arith) (omega (arith, inside, room)) in
        let then : Reading = read_lines (pieces 10 (drop (p.at + n + 1) t)) (i + 1) (cut (p.at + 41) (p.at + n - (p.at + 41)) t) true in
        let a : p.lines ≤ p.at = here.few in
        let b : p.refs ≤ p.lines = here.fewer in
        record {
          inside = inside;
          name = omega arith;
          named = omega (arith, inside);
          few = omega arith;
          fewer = omega arith;
          left = left;
          refs = ap (λ (n : ℕ). n + 1) here.refs ∙ sym (length-append (first_refs p.lines t) (r ∷ [])) ∙ ap length (sym more);
          reads =
              here.reads
              ∙ ap (onto (first_refs p.lines t))
              (reads_on said.Ref h
              ∙ ap (λ (o : Option Ref). read_on i last (Ok o) (read_lines others)) k.1
              ∙ ap₂ (λ (ps : List (List ℕ)) (m : List ℕ). onto (r ∷ []) (read_lines ps (i + 1) m true)) onward name)
              ∙ onto_onto (first_refs p.lines t) (r ∷ []) then
              ∙ ap (λ (rs : List Ref). onto rs then) (sym more);
        }

    moves_as : (s : Said) → SaysLine s last p.direct (take n (drop p.at t)) → Goes t p (past_as p n s)
    unfolding i line
    moves_as said.Malformed h = reads_on said.Malformed h
    moves_as said.Unpackable h = reads_on said.Unpackable h
    moves_as said.Nothing h = (on_nothing h, omega arith)
    moves_as said.Ref h = (on_ref h, omega arith)

    pub moves : (s : Said) → SaysLine s (cut p.last (p.end - p.last) t) p.direct (take n (take (length t - p.at) (drop p.at t)))
        → (r : ControlFlow Ending Place) → r ≡ past_as p n s → Goes t p r
    unfolding last
    moves s h r q =
        subst (Goes t p) (sym q)
        (moves_as s (subst (λ (l : List ℕ). SaysLine s (cut p.last (p.end - p.last) t) p.direct (take n l)) (to_end t p.at) h))

-- ---- a whole text

-- it is stopped there
pub checked : (t : List ℕ) (p : Place) (r : ControlFlow Ending Place) (e : Ending) → At t p → Goes t p r → r ≡ Break e
    → Checks t (record { lines = p.lines; refs = p.refs; ending = e })
checked t p r e h f q = record {
  lines =
      let a : length (drop p.lines (pieces 10 t)) ≡ length (pieces 10 (drop p.at t)) = ap length h.left in
      let b : 1 ≤ length (pieces 10 (drop p.at t)) = some_piece 10 (drop p.at t) in
      omega (arith, length-drop p.lines (pieces 10 t));
  few =
      let a : p.lines ≤ p.at = h.few in
      let b : p.at ≤ length t = h.inside in
      omega arith;
  refs = h.refs;
  reads = h.reads ∙ ap (onto (first_refs p.lines t)) (subst (Goes t p) q f) ∙ ap (λ (rs : List Ref). record { refs = rs; end = end_by e (p.lines + 1) }) (append-nil (first_refs p.lines t));
}
