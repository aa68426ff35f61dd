-- Rows among which no name stands twice: what the refusal 6 leaves. Assumes nothing.
use Rattle.std.specs.Prelude.{Option, Some, None, Ok}
use mathlib.Core.Path.{◌≡◌, refl, sym, ap}
use mathlib.Core.Bool.{Bool, true, false, ◌||◌, not, cond, true≢false}
use mathlib.Core.List.{List, [], ◌∷◌, map}
use Prim.Native.Nat.{ℕ, zero, suc, ◌<◌}
use native.Mathlib.Omega.{arith}
use lib.ListN.{length, get_or, length-map, get_or-map}
use borrow.Author.Tests.{eqb-false, ne_eqb}
use Rattle.target.specs.declared.NameNumber.{NameNumber}
use Rattle.target.specs.Target.{same_name}
use Rattle.transaction.specs.declared.Edit.{Edit}
use Rattle.model.specs.Basic.{any, Below}
use Rattle.model.specs.Names.{before}
use Rattle.model.specs.Store.{Store, name_of, no_row}
use Rattle.model.specs.Rows.{name_in, row_at}
use Rattle.model.specs.Split.{repeated, lesser, least, or_multiple, one_name_one_edit}
use Rattle.model.specs.Fine.{apart_rows}
use Rattle.model.proofs.All.{All, all_at}
use Rattle.model.proofs.All.All.{done, also}
use Rattle.model.proofs.Binds.{refuse_pass, no_name}

neither : (a b : Bool) → a || b ≡ false → (a ≡ false) × (b ≡ false)
neither true b e = absurd (true≢false e)
neither false b e = (refl, e)

-- ---- the least of some names is a name

cond_names : (t : Bool) (n m : NameNumber) → cond t (Some n) (Some m) ≡ None → ⊥
cond_names true n m e = no_name (sym e)
cond_names false n m e = no_name (sym e)

lesser_name : (s : Store) (n : NameNumber) (o : Option NameNumber) → lesser s n o ≡ None → ⊥
lesser_name s n None e = no_name (sym e)
lesser_name s n (Some m) e = cond_names (before (name_of s n) (name_of s m)) n m e

least_none : (s : Store) (ns : List NameNumber) → or_multiple (least s ns) ≡ Ok tt → ns ≡ []
least_none s [] e = refl
least_none s (n ∷ ns) e = go (lesser s n (least s ns)) refl e
  where
    go : (o : Option NameNumber) → lesser s n (least s ns) ≡ o → or_multiple o ≡ Ok tt → n ∷ ns ≡ []
    go None p q = absurd (lesser_name s n (least s ns) p)
    go (Some m) p q = absurd (refuse_pass q)

-- ---- no name repeats

-- the first does not stand again, and none of the others does
repeated_none : (n : NameNumber) (ns : List NameNumber)
    → repeated (n ∷ ns) ≡ [] → (any (same_name n) ns ≡ false) × (repeated ns ≡ [])
repeated_none n ns e = go (any (same_name n) ns) e
  where
    go : (t : Bool) → cond t (n ∷ repeated ns) (repeated ns) ≡ [] → (t ≡ false) × (repeated ns ≡ [])
    go true q = absurd (let z : ◌≡◌ {A = ℕ} 0 1 = cc in omega arith)
    go false q = (refl, q)

any_false : {A : Type 0} (test : A → Bool) (xs : List A) → any test xs ≡ false → All (λ x. test x ≡ false) xs
any_false test [] e = done
any_false test (x ∷ xs) e = let b = neither (test x) (any test xs) e in also b.0 (any_false test xs b.1)

names_apart : (ns : List NameNumber) (d : NameNumber) → repeated ns ≡ []
    → (i j : ℕ) → i < length ns → j < i → same_name (get_or ns j d) (get_or ns i d) ≡ false
names_apart [] d e i j h l = absurd (omega arith)
names_apart (n ∷ ns) d e zero j h l = absurd (omega arith)
names_apart (n ∷ ns) d e (suc i) zero h l = all_at (any_false (same_name n) ns (repeated_none n ns e).0) i d (omega arith)
names_apart (n ∷ ns) d e (suc i) (suc j) h l = names_apart ns d (repeated_none n ns e).1 i j (omega arith) (omega arith)

-- ---- of rows

pub rows_apart : (s : Store) (rows : List Edit)
    → one_name_one_edit s rows ≡ Ok tt → (i : ℕ) → i < length rows → Below i (apart_rows rows i)
unfolding one_name_one_edit
rows_apart s rows e i h j l =
    let q = names_apart (map name_in rows) (name_in no_row) (least_none s _ e) i j (rw length-map h) l in
    let r : same_name (name_in (row_at rows j)) (name_in (row_at rows i)) ≡ false =
    rw (get_or-map name_in rows j no_row, get_or-map name_in rows i no_row) at q in
    ap not (ne_eqb (name_in (row_at rows i)).0 (name_in (row_at rows j)).0 (λ x. eqb-false _ _ r (sym x)))
