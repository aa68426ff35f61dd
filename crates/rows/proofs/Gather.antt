-- Flags of all elements, gathered in one pass: those that are up, and what is left, decide together. Assumes nothing.
use mathlib.Core.Path.{◌≡◌, refl, sym, ap, ap₂, ◌∙◌, subst}
use mathlib.Core.Bool.{Bool, true, false, ◌&&◌, ◌||◌, not, cond, and-true, and-false, or-false}
use mathlib.Core.List.{List, [], ◌∷◌}
use Prim.Native.Nat.{ℕ, suc, ◌+◌, ◌<◌, ◌≤◌}
use native.Mathlib.Omega.{arith}
use native.Mathlib.Numerals.{add-one}
use lib.ListN.{length, get_or, set, drop, drop_of_length-le, length-set}
use lib.Seq.{drop-cons}
use lib.Dec.{eqb}
use borrow.Author.Tests.{not-true, not-false}
use Rattle.word.specs.Flags.{Flags, nowhere}
use Rattle.word.proofs.Flags.{flag_raised}
use Rattle.transaction.specs.declared.Edit.{Edit}
use Rattle.model.specs.declared.Line.{Line}
use Rattle.model.specs.Basic.{any}
use Rattle.model.specs.Store.{Store, is_of}
use Rattle.model.specs.Rows.{name_in, row_at}
use Rattle.rows.specs.Due.{lined}
use Rattle.rows.proofs.Laws.{lines_any}

-- of elements of which each has a number, those that pass a test
module _ {A : Type 0} (key : A → ℕ) (ok : A → Bool) where
  abbrev pub passes : ℕ → A → Bool
  passes n x = eqb (key x) n && ok x

pub record Gathering {A : Type 0} (key : A → ℕ) (ok : A → Bool) (xs : List A) (i : ℕ) (flags : List Bool) : Type 0 where
  pub size : length flags ≡ 256
  pub flag : (n : ℕ) → n < 256 → (get_or flags n false || any (passes key ok n) (drop i xs)) ≡ any (passes key ok n) xs

module _ {A : Type 0} (key : A → ℕ) (ok : A → Bool) (xs : List A) where
  pub gather_start : (flags : List Bool) → Flags nowhere flags → Gathering key ok xs 0 flags
  gather_start flags f = record { size = f.size; flag = λ n h. ap (λ (b : Bool). b || any (passes key ok n) xs) (f.flag n h) }

  pub gather_end : (f : ℕ → Bool) (flags : List Bool) (i m : ℕ) → Gathering key ok xs i flags → m ≡ length xs → m ≤ i
      → ((n : ℕ) → any (passes key ok n) xs ≡ f n) → Flags f flags
  gather_end f flags i m g e l same = record { size = g.size; flag = λ n h. flag n h }
    where
      flag : (n : ℕ) → n < 256 → get_or flags n false ≡ f n
      flag n h =
          let b : length xs ≤ i = omega arith in
          sym (or-false (get_or flags n false))
          ∙ ap (λ (ys : List A). get_or flags n false || any (passes key ok n) ys) (sym (drop_of_length-le xs b))
          ∙ g.flag n h
          ∙ same n

  pub gather_more : (d x : A) (k i m : ℕ) (b : Bool) (flags : List Bool) → Gathering key ok xs i flags → m ≡ length xs → i < m
      → x ≡ get_or xs i d → k ≡ key x → b ≡ ok x → Gathering key ok xs (i + 1) (cond b (set flags k true) flags)
  gather_more d x k i m b flags g e l ex ek eb = record { size = size b; flag = λ n h. flag n h }
    where
      size : (b : Bool) → length (cond b (set flags k true) flags) ≡ 256
      size true = length-set flags k true ∙ g.size
      size false = g.size

      left : (n : ℕ) → n < 256 → (get_or flags n false || ((eqb k n && b) || any (passes key ok n) (drop (suc i) xs))) ≡ any (passes key ok n) xs
      left n h =
          let c : i < length xs = omega arith in
          let p : passes key ok n (get_or xs i d) ≡ eqb k n && b = ap₂ (λ (j : ℕ) (c : Bool). eqb j n && c) (sym (ek ∙ ap key ex)) (sym (eb ∙ ap ok ex)) in
          ap (λ (c : Bool). get_or flags n false || (c || any (passes key ok n) (drop (suc i) xs))) (sym p)
          ∙ ap (λ (ys : List A). get_or flags n false || any (passes key ok n) ys) (sym (drop-cons xs i d c))
          ∙ g.flag n h

      swap : (a c r : Bool) → (a || (c || r)) ≡ ((c || a) || r)
      swap true true r = refl
      swap true false r = refl
      swap false true r = refl
      swap false false r = refl

      raised : (c : Bool) (n : ℕ) → n < 256 → get_or (cond c (set flags k true) flags) n false ≡ ((eqb k n && c) || get_or flags n false)
      raised false n h = ap (λ (c : Bool). c || get_or flags n false) (sym (and-false (eqb k n)))
      raised true n h =
          flag_raised flags k n (omega (arith, g.size)) ∙ ap (λ (c : Bool). c || get_or flags n false) (sym (and-true (eqb k n)))

      flag : (n : ℕ) → n < 256 → (get_or (cond b (set flags k true) flags) n false || any (passes key ok n) (drop (i + 1) xs)) ≡ any (passes key ok n) xs
      flag n h =
          ap₂ (λ (c : Bool) (j : ℕ). c || any (passes key ok n) (drop j xs)) (raised b n h) (add-one i)
          ∙ sym (swap (get_or flags n false) (eqb k n && b) (any (passes key ok n) (drop (suc i) xs)))
          ∙ left n h

  -- the same, of flags that are known to be those
  pub gather_to : (d x : A) (k i m : ℕ) (b : Bool) (flags flags' : List Bool) → Gathering key ok xs i flags → m ≡ length xs → i < m
      → x ≡ get_or xs i d → k ≡ key x → b ≡ ok x → flags' ≡ cond b (set flags k true) flags → Gathering key ok xs (i + 1) flags'
  gather_to d x k i m b flags flags' g e l ex ek eb h = subst (Gathering key ok xs (i + 1)) (sym h) (gather_more d x k i m b flags g e l ex ek eb)

-- ---- the flag of a row's name goes up if the row passes a test

module _ (p : Edit → Bool) (rows : List Edit) (row : Edit) (i : ℕ) (b : Bool) (er : row ≡ row_at rows i) (eb : b ≡ p row) where
  said : p (row_at rows i) ≡ b
  said = ap p (sym er) ∙ sym eb

  pub flag_passed : (flags : List Bool) → not b ≡ true → flags ≡ cond (p (row_at rows i)) (set flags (name_in (row_at rows i)).0 true) flags
  flag_passed flags t = rw (said ∙ not-true b t) refl

  pub flag_up : (flags flags' : List Bool) (k : ℕ) → not b ≡ false → k ≡ row.update.name.0 → flags' ≡ set flags k true
      → flags' ≡ cond (p (row_at rows i)) (set flags (name_in (row_at rows i)).0 true) flags
  flag_up flags flags' k t ek h = rw (said ∙ not-false b t) (h ∙ ap (λ (k : ℕ). set flags k true) (ek ∙ ap (λ (r : Edit). (name_in r).0) er))

-- ---- the names of lines

abbrev pub of_line : Line → ℕ
of_line l = l.name.0

abbrev pub every : Line → Bool
every l = true

lined_any : (n : ℕ) (ls : List Line) → any (passes of_line every n) ls ≡ any (is_of (record { 0 = n })) ls
lined_any n [] = refl
lined_any n (l ∷ ls) = ap₂ ◌||◌ (and-true (eqb l.name.0 n)) (lined_any n ls)

module _ (s : Store) (flags : List Bool) (i m : ℕ) (g : Gathering of_line every s.lines i flags) (e : m ≡ length s.lines) where
  pub lines_end : m ≤ i → Flags (lined s) flags
  lines_end l = gather_end of_line every s.lines (lined s) flags i m g e l (λ n. lined_any n s.lines ∙ lines_any s (record { 0 = n }))
