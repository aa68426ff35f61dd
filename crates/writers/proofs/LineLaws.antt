-- What writing and removing log lines rests on. Assumes nothing.
use mathlib.Core.Path.{◌≡◌, refl, sym, ap, ap₂, ◌∙◌, subst}
use mathlib.Core.Bool.{Bool, true, false, not, cond}
use mathlib.Core.List.{List, [], ◌∷◌, ◌++◌, append-nil, append_assoc}
use Prim.Native.Nat.{ℕ, zero, suc, ◌+◌, ◌-◌, ◌*◌, ◌≤◌, ◌<◌}
use native.Mathlib.Omega.{arith}
use native.Mathlib.Numerals.{add-one}
use native.Mathlib.Nat.{le_trans, le_of_eq}
use lib.ListN.{length, get_or, set, take, drop, replicate, length-set, length-append, drop_of_length-le}
use lib.Seq.{drop-cons, take-suc-set, get_or-take, length-take-le}
use Rattle.word.specs.Be.{be, cut}
use Rattle.word.specs.Cut.{put}
use Rattle.word.proofs.Cut.{length_cut}
use Rattle.word.proofs.Parts.{width}
use Rattle.target.specs.declared.NameNumber.{NameNumber}
use Rattle.target.specs.Target.{same_name}
use Rattle.model.specs.declared.Line.{Line}
use Rattle.model.specs.Basic.{select}
use Rattle.model.specs.Store.{Store, no_line, is_of, with_lines}
use Rattle.slots.specs.Values.{line_form, FitsLine}
use Rattle.region.specs.Region.{view, Laid, Became}
use Rattle.region.proofs.Fits.{FitsStore}
use Rattle.region.proofs.Decode.{laid_image, became}
use Rattle.writers.specs.Moved.{moved, placed}
use Rattle.writers.proofs.Elements.{each_set, each_more}
use Rattle.writers.proofs.WriteLines.{write_line, write_keep, write_add}

-- ---- the changed store fits

fits_lines : (s : Store) (ls : List Line) → FitsStore s → length ls ≤ 1024 → ((i : ℕ) → i < length ls → FitsLine (get_or ls i no_line)) → FitsStore (with_lines s ls)
fits_lines s ls f h g = record { names = f.names; entry = f.entry; lines = h; line = g; rows = f.rows; row = f.row }

module _ (r b : List ℕ) (l : Laid r) where
  pub put_line_is : (i : ℕ) (line : Line) → i < length (view r).lines → FitsLine line → b ≡ line_form line
      → Became (put (27021 + i * 22) (27021 + i * 22 + 22 - (27021 + i * 22)) r b) (with_lines (view r) (set (view r).lines i line))
  put_line_is i line h g e =
      let s : Store = view r in
      let f : FitsStore s = (laid_image r l).1 in
      became _ _
      (ap (λ (k : ℕ). put (27021 + i * 22) k r b) (width (27021 + i * 22) 22)
      ∙ ap₂ (λ (r b : List ℕ). put (27021 + i * 22) 22 r b) (laid_image r l).0 e
      ∙ write_line s i line h l.lines)
      (fits_lines s (set s.lines i line) f (le_trans (le_of_eq (length-set s.lines i line)) l.lines) (each_set FitsLine s.lines no_line i line f.line g))

  pub keep_is : (j n : ℕ) (r' : List ℕ) → j ≤ length (view r).lines → n ≡ length (view r).lines
      → b ≡ replicate (length (cut (27021 + j * 22) (27021 + n * 22 - (27021 + j * 22)) r)) 0
      → r' ≡ put 8 2 (put (27021 + j * 22) (27021 + n * 22 - (27021 + j * 22)) r b) (be 2 j)
      → Became r' (with_lines (view r) (take j (view r).lines))
  keep_is j n r' h en eb er =
      let s : Store = view r in
      let f : FitsStore s = (laid_image r l).1 in
      let few : length s.lines ≤ 1024 = l.lines in
      let size : length r ≡ 49549 = l.size in
      let k : ℕ = 27021 + n * 22 - (27021 + j * 22) in
      let long : length (cut (27021 + j * 22) (27021 + n * 22 - (27021 + j * 22)) r) ≡ 27021 + n * 22 - (27021 + j * 22) =
      length_cut (27021 + j * 22) (27021 + n * 22 - (27021 + j * 22)) r (omega arith) in
      let m : length (take j s.lines) ≡ j = length-take-le j s.lines h in
      became _ _
      (er
      ∙ ap (λ (b : List ℕ). put 8 2 (put (27021 + j * 22) k r b) (be 2 j)) (eb ∙ ap (λ (k : ℕ). replicate k 0) long)
      ∙ ap (λ (r : List ℕ). put 8 2 (put (27021 + j * 22) k r (replicate k 0)) (be 2 j)) (laid_image r l).0
      ∙ write_keep s j k h few (omega arith))
      (fits_lines s (take j s.lines) f (omega arith)
      (λ i g. subst FitsLine (sym (get_or-take j s.lines i no_line (le_trans g (le_of_eq m)))) (f.line i (omega arith))))

pub fits_line : (r : List ℕ) (l : Laid r) (i : ℕ) (x : Line) → i < length (view r).lines → x ≡ get_or (view r).lines i no_line → FitsLine x
fits_line r l i x h e = subst FitsLine (sym e) ((laid_image r l).1.line i h)

-- ---- one line

module _ (n : NameNumber) (i j : ℕ) (ls : List Line) (x : Line) (ex : x ≡ get_or ls i no_line) where
  pub moved_gone : same_name x.name n ≡ true → moved n i j ls ≡ ls
  unfolding moved
  moved_gone t = ap (λ (y : Line). cond (is_of n y) ls (set ls j y)) (sym ex) ∙ ap (λ (b : Bool). cond b ls (set ls j x)) t

  pub placed_gone : same_name x.name n ≡ true → placed n i j ls ≡ j
  unfolding placed
  placed_gone t = ap (λ (y : Line). cond (is_of n y) j (j + 1)) (sym ex) ∙ ap (λ (b : Bool). cond b j (j + 1)) t

  pub moved_kept : same_name x.name n ≡ false → moved n i j ls ≡ set ls j x
  unfolding moved
  moved_kept t = ap (λ (y : Line). cond (is_of n y) ls (set ls j y)) (sym ex) ∙ ap (λ (b : Bool). cond b ls (set ls j x)) t

  pub placed_kept : same_name x.name n ≡ false → placed n i j ls ≡ j + 1
  unfolding placed
  placed_kept t = ap (λ (y : Line). cond (is_of n y) j (j + 1)) (sym ex) ∙ ap (λ (b : Bool). cond b j (j + 1)) t

pub line_gone : (r : List ℕ) (n : NameNumber) (i j : ℕ) (x : Line) (b : Bool) → Laid r → x ≡ get_or (view r).lines i no_line → b ≡ same_name x.name n → b ≡ true
    → (j ≡ placed n i j (view r).lines) × Became r (with_lines (view r) (moved n i j (view r).lines))
line_gone r n i j x b l ex e t = (
  sym (placed_gone n i j (view r).lines x ex (sym e ∙ t)),
  record { laid = l; seen = ap (with_lines (view r)) (sym (moved_gone n i j (view r).lines x ex (sym e ∙ t))) },
)

pub line_kept : (r r' : List ℕ) (n : NameNumber) (i j : ℕ) (x : Line) (b : Bool) → x ≡ get_or (view r).lines i no_line → b ≡ same_name x.name n → b ≡ false
    → Became r' (with_lines (view r) (set (view r).lines j x))
    → (j + 1 ≡ placed n i j (view r).lines) × Became r' (with_lines (view r) (moved n i j (view r).lines))
line_kept r r' n i j x b ex e t c = (
  sym (placed_kept n i j (view r).lines x ex (sym e ∙ t)),
  subst (λ (ls : List Line). Became r' (with_lines (view r) ls)) (sym (moved_kept n i j (view r).lines x ex (sym e ∙ t))) c,
)

-- ---- the loop: the lines kept so far, and those still to be looked at

drop_set : {A : Type 0} (l : List A) (i j : ℕ) (x : A) → j ≤ i → drop (suc i) (set l j x) ≡ drop (suc i) l
drop_set [] i j x h = refl
drop_set (y ∷ l) i zero x h = refl
drop_set (y ∷ l) zero (suc j) x h = absurd (omega arith)
drop_set (y ∷ l) (suc i) (suc j) x h = drop_set l i j x (omega arith)

module _ (n : NameNumber) where
  step_left : (l : List Line) (i j : ℕ) → j ≤ i → i < length l
      → take (placed n i j l) (moved n i j l) ++ select (λ l. not (is_of n l)) (drop (suc i) (moved n i j l)) ≡ take j l ++ select (λ l. not (is_of n l)) (drop i l)
  unfolding placed moved
  step_left l i j h g = rw (drop-cons l i no_line g) (go (is_of n (get_or l i no_line)) refl)
    where
      go : (b : Bool) → is_of n (get_or l i no_line) ≡ b
          → take (cond b j (j + 1)) (cond b l (set l j (get_or l i no_line))) ++ select (λ l. not (is_of n l)) (drop (suc i) (cond b l (set l j (get_or l i no_line))))
          ≡ take j l ++ cond (not b) (get_or l i no_line ∷ select (λ l. not (is_of n l)) (drop (suc i) l)) (select (λ l. not (is_of n l)) (drop (suc i) l))
      go true e = refl
      go false e =
          let k : j < length l = omega arith in
          ap₂ (λ (m : ℕ) (t : List Line). take m (set l j (get_or l i no_line)) ++ select (λ l. not (is_of n l)) t) (add-one j) (drop_set l i j (get_or l i no_line) h)
          ∙ ap (λ (t : List Line). t ++ select (λ l. not (is_of n l)) (drop (suc i) l)) (take-suc-set l j (get_or l i no_line) k)
          ∙ append_assoc (take j l) (get_or l i no_line ∷ []) _

  length_moved : (l : List Line) (i j : ℕ) → length (moved n i j l) ≡ length l
  unfolding moved
  length_moved l i j = go (is_of n (get_or l i no_line))
    where
      go : (b : Bool) → length (cond b l (set l j (get_or l i no_line))) ≡ length l
      go true = refl
      go false = length-set l j (get_or l i no_line)

  placed_next : (l : List Line) (i j : ℕ) → placed n i j l ≤ j + 1
  unfolding placed
  placed_next l i j = go (is_of n (get_or l i no_line))
    where
      go : (b : Bool) → cond b j (j + 1) ≤ j + 1
      go true = omega arith
      go false = omega arith

pub record Far (n : NameNumber) (r₀ : List ℕ) (count i j : ℕ) (r : List ℕ) : Type 0 where
  pub laid : Laid r
  pub same : length r ≡ length r₀
  pub upto : i ≤ count
  pub behind : j ≤ i
  pub many : length (view r).lines ≡ count
  pub seen : view r ≡ with_lines (view r₀) (view r).lines
  pub whole : take j (view r).lines ++ select (λ l. not (is_of n l)) (drop i (view r).lines) ≡ select (λ l. not (is_of n l)) (view r₀).lines

pub far_start : (n : NameNumber) (r : List ℕ) (count : ℕ) → Laid r → count ≡ length (view r).lines → Far n r count 0 0 r
far_start n r count l e = record { laid = l; same = refl; upto = omega arith; behind = omega arith; many = sym e; seen = refl; whole = refl }

pub far_more : (n : NameNumber) (r₀ r r' : List ℕ) (count i j j' : ℕ) → Far n r₀ count i j r → i < count → length r' ≡ length r
    → (j' ≡ placed n i j (view r).lines) × Became r' (with_lines (view r) (moved n i j (view r).lines)) → Far n r₀ count (i + 1) j' r'
far_more n r₀ r r' count i j j' f h el (ej, b) =
    let l : List Line = (view r).lines in
    let e : (view r').lines ≡ moved n i j l = ap (λ (s : Store). s.lines) b.seen in
    let p : placed n i j l ≤ j + 1 = placed_next n l i j in
    let m : length l ≡ count = f.many in
    let k : j ≤ i = f.behind in
    let g : i < length l = omega arith in
    record {
      laid = b.laid;
      same = el ∙ f.same;
      upto = omega arith;
      behind = omega arith;
      many = ap length e ∙ length_moved n l i j ∙ f.many;
      seen = b.seen ∙ ap (λ (s : Store). with_lines s (moved n i j l)) f.seen ∙ ap (with_lines (view r₀)) (sym e);
      whole =
          ap₂ (λ (j : ℕ) (l : List Line). take j l ++ select (λ l. not (is_of n l)) (drop (i + 1) l)) ej e
          ∙ ap (λ (k : ℕ). take (placed n i j l) (moved n i j l) ++ select (λ l. not (is_of n l)) (drop k (moved n i j l))) (add-one i)
          ∙ step_left n l i j k g
          ∙ f.whole;
    }

pub far_end : (n : NameNumber) (r₀ r r' : List ℕ) (count i j : ℕ) → Far n r₀ count i j r → count ≤ i → Became r' (with_lines (view r) (take j (view r).lines))
    → Became r' (with_lines (view r₀) (select (λ l. not (is_of n l)) (view r₀).lines))
far_end n r₀ r r' count i j f h b =
    let l : List Line = (view r).lines in
    let m : length l ≡ count = f.many in
    let k : length l ≤ i = omega arith in
    let e : take j l ≡ select (λ l. not (is_of n l)) (view r₀).lines =
    sym (append-nil (take j l)) ∙ ap (λ (t : List Line). take j l ++ select (λ l. not (is_of n l)) t) (sym (drop_of_length-le l k)) ∙ f.whole in
    record { laid = b.laid; seen = b.seen ∙ ap (λ (s : Store). with_lines s (take j l)) f.seen ∙ ap (with_lines (view r₀)) e }

pub far_room : (n : NameNumber) (r₀ r : List ℕ) (count i j : ℕ) → Far n r₀ count i j r → j ≤ length (view r).lines
far_room n r₀ r count i j f = let m : length (view r).lines ≡ count = f.many in let a : i ≤ count = f.upto in let b : j ≤ i = f.behind in omega arith

-- ---- a line more

pub add_line_is : (r r' b : List ℕ) (n : ℕ) (line : Line) → Laid r → length (view r).lines < 1024 → FitsLine line → n ≡ length (view r).lines → b ≡ line_form line
    → r' ≡ put 8 2 (put (27021 + n * 22) (27021 + n * 22 + 22 - (27021 + n * 22)) r b) (be 2 (n + 1))
    → Became r' (with_lines (view r) ((view r).lines ++ (line ∷ [])))
add_line_is r r' b n line l h g en eb er =
    let s : Store = view r in
    let f : FitsStore s = (laid_image r l).1 in
    let m : length (s.lines ++ (line ∷ [])) ≤ 1024 = rw length-append (omega arith) in
    became _ _
    (er
    ∙ ap (λ (k : ℕ). put 8 2 (put (27021 + n * 22) k r b) (be 2 (n + 1))) (width (27021 + n * 22) 22)
    ∙ ap (λ (b : List ℕ). put 8 2 (put (27021 + n * 22) 22 r b) (be 2 (n + 1))) eb
    ∙ ap₂ (λ (r : List ℕ) (n : ℕ). put 8 2 (put (27021 + n * 22) 22 r (line_form line)) (be 2 (n + 1))) (laid_image r l).0 en
    ∙ write_add s line h)
    (fits_lines s (s.lines ++ (line ∷ [])) f m (each_more FitsLine s.lines no_line line f.line g))
