use mathlib.Core.Path.{sym, ◌∙◌}
use native.Mathlib.Omega.{arith}
use lib.Seq.{length-take-le}
use Rattle.texts.proofs.Lines.{ref_is, no_digits}
use Rattle.texts.proofs.is_ref_line.Goals.{then-begins_with, else-begins_with, then-are_digits, else-are_digits, then-line-ge-NAME, else-line-ge-NAME}
use Rattle.texts.proofs.is_ref_line.Goals as goal

pub slice_bounds-are_digits-end : goal.slice_bounds-are_digits-end
slice_bounds-are_digits-end c = sym (length-take-le 40 c.args.line.now (omega arith))

pub returns-else-line-eq-SPACE : goal.returns-else-line-eq-SPACE
returns-else-line-eq-SPACE c =
    elim c.if-begins_with.branch [
      | then-begins_with w ↦ grind (arith, ref_is)
      | else-begins_with w ↦
          elim c.if-are_digits.branch [
            | then-are_digits v ↦ grind (arith, ref_is)
            | else-are_digits v ↦
                elim c.if-line-ge-NAME.branch [
                  | then-line-ge-NAME u ↦ c.if-line-eq-SPACE.false ∙ no_digits c.args.line.now u.are_digits.result u.are_digits.ensures cc
                  | else-line-ge-NAME u ↦ grind (arith, ref_is)
                ]
          ]
    ]
