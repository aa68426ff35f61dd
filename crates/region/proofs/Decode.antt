-- The two halves of decoding: every store that obeys the rules is decoded from its image, and what is decoded is such a store,
-- whose image is the region. And what accessors ask for and leave, by images. Assumes nothing.
use Rattle.std.specs.Prelude.{Some, None}
use mathlib.Core.Path.{◌≡◌, refl, sym, ap, ◌∙◌, subst}
use mathlib.Core.Bool.{Bool, true, false, cond}
use mathlib.Core.List.{List}
use Prim.Native.Nat.{ℕ}
use native.Mathlib.Omega.{arith}
use Rattle.word.proofs.Tests.{both_true, true_both}
use Rattle.model.specs.Store.{Store}
use Rattle.model.specs.Fine.{Fine, fine}
use Rattle.model.proofs.Rules.{fine_true, true_fine}
use Rattle.region.specs.Region.{image, view, layout, good, decode, Laid, Became}
use Rattle.region.proofs.Fits.{FitsStore, fine_fits}
use Rattle.region.proofs.Parts.{parts}
use Rattle.region.proofs.Image.{view_image, layout_image}
use Rattle.region.proofs.View.{image_view, fits_view}

pub decode_good : (r : List ℕ) → good r ≡ true → decode r ≡ Some (view r)
unfolding decode
decode_good r e = rw e

pub decode_bad : (r : List ℕ) → good r ≡ false → decode r ≡ None
unfolding decode
decode_bad r e = rw e

-- a region is good exactly where it is laid out so and what is seen obeys the rules
pub good_parts : (r : List ℕ) → good r ≡ true → (layout r ≡ true) × Fine (view r)
unfolding good
good_parts r e =
    let b : (layout r ≡ true) × (fine (view r) ≡ true) = both_true _ _ e in (b.0, fine_true (view r) b.1)

pub parts_good : (r : List ℕ) → layout r ≡ true → Fine (view r) → good r ≡ true
unfolding good
parts_good r e f = true_both e (true_fine (view r) f)

pub good_image : (s : Store) → Fine s → good (image s) ≡ true
good_image s f =
    parts_good (image s) (layout_image s (fine_fits s f)) (subst Fine (sym (view_image s (fine_fits s f))) f)

pub decode_image : (s : Store) → Fine s → decode (image s) ≡ Some s
decode_image s f = decode_good (image s) (good_image s f) ∙ ap Some (view_image s (fine_fits s f))

pub decoded : (r : List ℕ) (s : Store) → decode r ≡ Some s → Fine s × (image s ≡ r)
unfolding decode
decoded r s e = go (good r) refl e
  where
    go : (t : Bool) → good r ≡ t → cond t (Some (view r)) None ≡ Some s → Fine s × (image s ≡ r)
    go true p q =
        let v : view r ≡ s = cc in
        let b : (layout r ≡ true) × Fine (view r) = good_parts r p in
        (subst Fine v b.1, ap image (sym v) ∙ image_view r b.0)
    go false p q = absurd (let z : ◌≡◌ {A = ℕ} 0 1 = cc in omega arith)

-- ---- what accessors ask for, and what those that write leave

pub laid : (r : List ℕ) → layout r ≡ true → Laid r
laid r e =
    record {
      ok = e;
      size = (parts r e).size;
      names = (fits_view r e).names;
      lines = (fits_view r e).lines;
      rows = (fits_view r e).rows;
    }

pub laid_image : (r : List ℕ) → Laid r → (r ≡ image (view r)) × FitsStore (view r)
laid_image r l = (sym (image_view r l.ok), fits_view r l.ok)

pub became : (r : List ℕ) (s : Store) → r ≡ image s → FitsStore s → Became r s
became r s e f = record { laid = laid r (ap layout e ∙ layout_image s f); seen = ap view e ∙ view_image s f }

pub became_image : (r : List ℕ) (s : Store) → Became r s → r ≡ image s
became_image r s b = sym (image_view r b.laid.ok) ∙ ap image b.seen
