-- What writing the mode and the rows rests on: the store with those rows fits its bytes, and the region is its image. Assumes nothing.
use Rattle.std.specs.Prelude.{Option, Some, None}
use mathlib.Core.Path.{◌≡◌, refl, sym, ap, ap₂, ◌∙◌, subst}
use mathlib.Core.Bool.{true, false≢true}
use mathlib.Core.List.{List, [], ◌∷◌, ◌++◌}
use Prim.Native.Nat.{ℕ, ◌+◌, ◌-◌, ◌*◌, ◌≤◌, ◌<◌}
use native.Mathlib.Nat.{le_trans, le_of_eq}
use native.Mathlib.Omega.{arith}
use lib.ListN.{length, set, replicate, length-set, length-append}
use Rattle.word.specs.Be.{cut, be}
use Rattle.word.specs.Cut.{put}
use Rattle.word.proofs.Be.{length_be}
use Rattle.word.proofs.Cut.{length_cut, length_put}
use Rattle.word.proofs.Parts.{width}
use Rattle.transaction.specs.declared.PackedRefs.{PackedRefs}
use Rattle.transaction.specs.declared.Edit.{Edit}
use Rattle.transaction.specs.Fields.{packed_refs_number}
use Rattle.model.specs.Store.{Store, Prepared, no_row, rows_in, is_prepared, with_prepared, rows_as, with_rows}
use Rattle.model.specs.Rows.{row_at}
use Rattle.slots.specs.Row.{row_form, FitsRow}
use Rattle.region.specs.Region.{image, view, Laid, Became}
use Rattle.region.proofs.Fits.{FitsStore}
use Rattle.region.proofs.Decode.{laid_image, became}
use Rattle.writers.proofs.Elements.{each_set, each_more}
use Rattle.writers.proofs.Write.{forget_rows}
use Rattle.writers.proofs.WriteRows.{having, write_row, write_more, write_mode}

-- ---- the changed store fits

fits_rows : (s : Store) (m : PackedRefs) (rows : List Edit) → FitsStore s → length rows ≤ 160
    → ((i : ℕ) → i < length rows → FitsRow (row_at rows i)) → FitsStore (having s m rows)
fits_rows s m rows f h g = record { names = f.names; entry = f.entry; lines = f.lines; line = f.line; rows = h; row = g }

-- ---- a store that is prepared, by its rows

seen_as : (s : Store) (q : Option Prepared) → s.prepared ≡ q → s ≡ with_prepared s q
seen_as s q e = ap (with_prepared s) e

module _ (r b : List ℕ) (l : Laid r) (row : Edit) (g : FitsRow row) (eb : b ≡ row_form row) where
  pub put_row_is : (i : ℕ) → i < length (rows_in (view r).prepared)
      → Became (put (21261 + i * 36) (21261 + i * 36 + 36 - (21261 + i * 36)) r b) (with_rows (view r) (set (rows_in (view r).prepared) i row))
  put_row_is i h = go (view r).prepared refl h
    where
      go : (q : Option Prepared) → (view r).prepared ≡ q → i < length (rows_in q)
          → Became (put (21261 + i * 36) (21261 + i * 36 + 36 - (21261 + i * 36)) r b) (with_rows (view r) (set (rows_in (view r).prepared) i row))
      go None e k = absurd (omega arith)
      go (Some p) e k =
          let s : Store = view r in
          let few : length p.rows ≤ 160 = le_trans (le_of_eq (ap (λ (q : Option Prepared). length (rows_in q)) (sym e))) l.rows in
          let f : FitsStore s = (laid_image r l).1 in
          let fr : (k : ℕ) → k < length p.rows → FitsRow (row_at p.rows k) =
          subst (λ (q : Option Prepared). (k : ℕ) → k < length (rows_in q) → FitsRow (row_at (rows_in q) k)) e f.row in
          let t : having s p.mode (set p.rows i row) ≡ with_rows s (set (rows_in s.prepared) i row) =
          ap (λ (q : Option Prepared). with_prepared s (rows_as (set (rows_in q) i row) q)) (sym e) in
          subst (Became _) t
          (became _ _
          (ap (λ (k : ℕ). put (21261 + i * 36) k r b) (width (21261 + i * 36) 36)
          ∙ ap₂ (λ (r b : List ℕ). put (21261 + i * 36) 36 r b) ((laid_image r l).0 ∙ ap image (seen_as s (Some p) e)) eb
          ∙ write_row s p.mode p.rows i row k few)
          (fits_rows s p.mode (set p.rows i row) f (le_trans (le_of_eq (length-set p.rows i row)) few) (each_set FitsRow p.rows no_row i row fr g)))

  pub add_row_is : (n : ℕ) (r' : List ℕ) → is_prepared (view r).prepared ≡ true → length (rows_in (view r).prepared) < 160 → n ≡ length (rows_in (view r).prepared)
      → r' ≡ put 11 1 (put (21261 + n * 36) (21261 + n * 36 + 36 - (21261 + n * 36)) r b) (be 1 (n + 1))
      → Became r' (with_rows (view r) (rows_in (view r).prepared ++ (row ∷ [])))
  add_row_is n r' y h en er = go (view r).prepared refl y h en
    where
      go : (q : Option Prepared) → (view r).prepared ≡ q → is_prepared q ≡ true → length (rows_in q) < 160 → n ≡ length (rows_in q)
          → Became r' (with_rows (view r) (rows_in (view r).prepared ++ (row ∷ [])))
      go None e y k en = absurd (false≢true y)
      go (Some p) e y k en =
          let s : Store = view r in
          let f : FitsStore s = (laid_image r l).1 in
          let fr : (k : ℕ) → k < length p.rows → FitsRow (row_at p.rows k) =
          subst (λ (q : Option Prepared). (k : ℕ) → k < length (rows_in q) → FitsRow (row_at (rows_in q) k)) e f.row in
          let t : having s p.mode (p.rows ++ (row ∷ [])) ≡ with_rows s (rows_in s.prepared ++ (row ∷ [])) =
          ap (λ (q : Option Prepared). with_prepared s (rows_as (rows_in q ++ (row ∷ [])) q)) (sym e) in
          subst (Became _) t
          (became _ _
          (er
          ∙ ap (λ (k : ℕ). put 11 1 (put (21261 + n * 36) k r b) (be 1 (n + 1))) (width (21261 + n * 36) 36)
          ∙ ap (λ (b : List ℕ). put 11 1 (put (21261 + n * 36) 36 r b) (be 1 (n + 1))) eb
          ∙ ap₂ (λ (r : List ℕ) (n : ℕ). put 11 1 (put (21261 + n * 36) 36 r (row_form row)) (be 1 (n + 1))) ((laid_image r l).0 ∙ ap image (seen_as s (Some p) e)) en
          ∙ write_more s p.mode p.rows row k)
          (fits_rows s p.mode (p.rows ++ (row ∷ [])) f (le_trans (le_of_eq (length-append p.rows (row ∷ []))) (omega arith)) (each_more FitsRow p.rows no_row row fr g)))

pub begin_is : (r r' : List ℕ) (x : ℕ) (m : PackedRefs) → Laid r → (view r).prepared ≡ None → x ≡ packed_refs_number m → r' ≡ put 10 1 r (be 1 x)
    → Became r' (having (view r) m [])
begin_is r r' x m l e ex er =
    became r' (having (view r) m [])
    (er
    ∙ ap₂ (λ (r : List ℕ) (x : ℕ). put 10 1 r (be 1 x)) ((laid_image r l).0 ∙ ap image (seen_as (view r) None e)) ex
    ∙ write_mode (view r) m)
    (fits_rows (view r) m [] (laid_image r l).1 (omega arith) (λ i h. absurd (omega arith)))

-- ---- nothing prepared any more

fits_none : (s : Store) → FitsStore s → FitsStore (with_prepared s None)
fits_none s f =
    record {
      names = f.names;
      entry = f.entry;
      lines = f.lines;
      line = f.line;
      rows = omega arith;
      row = λ i h. absurd (omega arith);
    }

-- zeros, as many as the part has that they are written into
pub forget_is : (r r₁ r₂ z : List ℕ) → Laid r → r₁ ≡ put 10 1 r (be 1 0) → r₂ ≡ put 11 1 r₁ (be 1 0)
    → z ≡ replicate (length (cut 21261 5760 r₂)) 0 → Became (put 21261 5760 r₂ z) (with_prepared (view r) None)
forget_is r r₁ r₂ z l e₁ e₂ ez =
    let s : length r ≡ 49549 = l.size in
    let l₁ : length r₁ ≡ length r = ap length e₁ ∙ length_put 10 1 r (be 1 0) (omega arith) (length_be 1 0) in
    let l₂ : length r₂ ≡ length r₁ = ap length e₂ ∙ length_put 11 1 r₁ (be 1 0) (omega arith) (length_be 1 0) in
    let m : length (cut 21261 5760 r₂) ≡ 5760 = length_cut 21261 5760 r₂ (omega arith) in
    became (put 21261 5760 r₂ z) (with_prepared (view r) None)
    (ap₂ (λ (r z : List ℕ). put 21261 5760 r z)
    (e₂ ∙ ap (λ (r : List ℕ). put 11 1 r (be 1 0)) (e₁ ∙ ap (λ (r : List ℕ). put 10 1 r (be 1 0)) (laid_image r l).0)) ez
    ∙ forget_rows (view r) (length (cut 21261 5760 r₂)) m)
    (fits_none (view r) (laid_image r l).1)
