-- What the tests of a region give to those that show it. Assumes nothing.
use Rattle.std.proofs.Common.{◌≡◌, ℕ, Bool, true, List, sym, ◌∙◌}
use Rattle.model.specs.Fine.{Fine, fine}
use Rattle.model.proofs.Rules.{fine_true}
use Rattle.region.specs.Region.{view, layout, Laid}
use Rattle.region.proofs.Decode.{laid}

module _ (r : List ℕ) (ok : Bool) where
  pub is_laid : ok ≡ layout r → ok ≡ true → Laid r
  is_laid e y = laid r (sym e ∙ y)

  pub is_fine : ok ≡ fine (view r) → ok ≡ true → Fine (view r)
  is_fine e y = fine_true (view r) (sym e ∙ y)
