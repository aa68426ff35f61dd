-- Flags of the names that rows have so far: a name that is seen twice has its flag up. Assumes nothing.
use mathlib.Core.Path.{◌≡◌, refl, sym, ap, ◌∙◌}
use mathlib.Core.Bool.{Bool, true, false, ◌||◌, not, false≢true, true≢false}
use mathlib.Core.List.{List}
use Prim.Native.Nat.{ℕ, ◌+◌, ◌<◌}
use native.Mathlib.Omega.{arith}
use lib.ListN.{length, get_or, set}
use lib.Dec.{eqb}
use borrow.Author.Tests.{not-false, eqb-true, eqb-false, eq-eqb, ne_eqb}
use Rattle.word.specs.Flags.{Flags, nowhere}
use Rattle.word.proofs.Flags.{raised}
use Rattle.word.proofs.Tests.{below_more, below_false, below_true, true_below}
use Rattle.target.specs.declared.NameNumber.{NameNumber}
use Rattle.transaction.specs.declared.Edit.{Edit}
use Rattle.model.specs.Basic.{below}
use Rattle.model.specs.Store.{Store, count, rows_in}
use Rattle.model.specs.Rows.{name_in, row_at}
use Rattle.model.specs.Fine.{fine_row, apart_rows}
use Rattle.model.proofs.FineEdit.{row_name}
use Rattle.region.specs.Region.{view, Laid}
use Rattle.rules.specs.Marks.{seen, Stood}
use Rattle.rules.proofs.Laws.{loop_none, row_own, row_other}

-- the number is not the name of row j
abbrev clear : List Edit → ℕ → ℕ → Bool
clear rows n j = not (eqb n (name_in (row_at rows j)).0)

none_seen : (rows : List Edit) (n : ℕ) → false ≡ seen rows 0 n
none_seen rows n = ap not (sym (loop_none (clear rows n)))

pub seen_start : (rows : List Edit) (flags : List Bool) → Flags nowhere flags → Flags (seen rows 0) flags
seen_start rows flags f = record { size = f.size; flag = λ n h. f.flag n h ∙ none_seen rows n }

module _ (rows : List Edit) (i n : ℕ) where
  -- the next row's own name
  seen_own : n ≡ (name_in (row_at rows i)).0 → true ≡ seen rows (i + 1) n
  seen_own e =
      sym (ap not (below_false (i + 1) (clear rows n) i (omega arith) (ap not (eq-eqb n (name_in (row_at rows i)).0 e))))

  -- any other
  seen_other : (n ≡ (name_in (row_at rows i)).0 → ⊥) → seen rows i n ≡ seen rows (i + 1) n
  seen_other d = go (below i (clear rows n)) (below (i + 1) (clear rows n)) refl refl
    where
      here : clear rows n i ≡ true
      here = ap not (ne_eqb n (name_in (row_at rows i)).0 d)

      go : (a b : Bool) → below i (clear rows n) ≡ a → below (i + 1) (clear rows n) ≡ b → not a ≡ not b
      go true true p q = refl
      go true false p q = absurd (true≢false (sym (below_more i (clear rows n) p here) ∙ q))
      go false true p q = absurd (true≢false (sym (true_below i (clear rows n) (λ j l. below_true (i + 1) (clear rows n) q j (omega arith))) ∙ p))
      go false false p q = refl

seen_more : (rows : List Edit) (i n : ℕ) (flags flags' : List Bool) → Flags (seen rows i) flags → n ≡ (name_in (row_at rows i)).0
    → flags' ≡ set flags n true → Flags (seen rows (i + 1)) flags'
seen_more rows i n flags flags' f e h = raised (seen rows i) (seen rows (i + 1)) flags flags' n f h (λ m. go m (eqb n m) refl)
  where
    go : (m : ℕ) (b : Bool) → eqb n m ≡ b → (b || seen rows i m) ≡ seen rows (i + 1) m
    go m true q = seen_own rows i m (sym (eqb-true n m q) ∙ e)
    go m false q = seen_other rows i m (λ p. eqb-false n m q (e ∙ sym p))

module _ (r : List ℕ) (i n : ℕ) (name : NameNumber) (a : Bool) (flags : List Bool) (l : Laid r) (ea : a ≡ fine_row (count (view r)) (rows_in (view r).prepared) i) (y : not a ≡ false)
    (en : name ≡ name_in (row_at (rows_in (view r).prepared) i)) (ek : n ≡ name.0) (f : Flags (seen (rows_in (view r).prepared) i) flags) where
  own : n ≡ (name_in (row_at (rows_in (view r).prepared) i)).0
  own = ek ∙ ap (λ (k : NameNumber). k.0) en

  low : n < 256
  low =
      let h : (name_in (row_at (rows_in (view r).prepared) i)).0 < count (view r) = row_name (count (view r)) (rows_in (view r).prepared) i (sym ea ∙ not-false a y) in
      omega (arith, own, l.names)

  pub seen_room : n < length flags
  seen_room = omega (arith, low, f.size)

  -- whether an earlier row has the name
  apart_is : below i (apart_rows (rows_in (view r).prepared) i) ≡ not (get_or flags n false)
  apart_is = go (below i (apart_rows (rows_in (view r).prepared) i)) refl
    where
      said : get_or flags n false ≡ not (below i (apart_rows (rows_in (view r).prepared) i))
      said = f.flag n low ∙ ap (λ (k : ℕ). not (below i (λ j. not (eqb k (name_in (row_at (rows_in (view r).prepared) j)).0)))) own

      go : (b : Bool) → below i (apart_rows (rows_in (view r).prepared) i) ≡ b → b ≡ not (get_or flags n false)
      go true p = ap not (sym (said ∙ ap not p))
      go false p = ap not (sym (said ∙ ap not p))

  pub seen_twice : get_or flags n false ≡ true → Stood (view r) i false flags
  seen_twice t = record { test = row_other (view r) i a ea y false (sym (apart_is ∙ ap not t)); more = λ e. absurd (false≢true e) }

  pub seen_once : (flags' : List Bool) → get_or flags n false ≡ false → flags' ≡ set flags n true → Stood (view r) i true flags'
  seen_once flags' t h = record {
    test = row_other (view r) i a ea y true (sym (apart_is ∙ ap not t));
    more = λ e. seen_more (rows_in (view r).prepared) i n flags flags' f own h;
  }

pub seen_not : (r : List ℕ) (i : ℕ) (a : Bool) (flags : List Bool) → a ≡ fine_row (count (view r)) (rows_in (view r).prepared) i → not a ≡ true
    → Stood (view r) i false flags
seen_not r i a flags ea t = record { test = row_own (view r) i a ea t; more = λ e. absurd (false≢true e) }

pub seen_next : (s : Store) (i : ℕ) (ok : Bool) (flags : List Bool) → Stood s i ok flags → not ok ≡ false → Flags (seen (rows_in s.prepared) (i + 1)) flags
seen_next s i ok flags h t = h.more (not-false ok t)
