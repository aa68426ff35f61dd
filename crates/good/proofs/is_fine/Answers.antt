use mathlib.Core.Path.{sym, ◌∙◌}
use mathlib.Core.Bool.{false≢true}
use Rattle.good.proofs.Laws.{passed_named}
use Rattle.good.proofs.is_fine.Goals.{then-locks_fine, else-locks_fine, then-rows_fine, else-rows_fine, then-lines_fine, else-lines_fine}
use Rattle.good.proofs.is_fine.Goals as goal

pub nests_fine-requires-clause-named : goal.nests_fine-requires-clause-named
nests_fine-requires-clause-named c = elim c.if-locks_fine.branch [
  | then-locks_fine w ↦ elim c.if-rows_fine.branch [
    | then-rows_fine v ↦ elim c.if-lines_fine.branch [
      | then-lines_fine u ↦ passed_named _ _ _ v.if-rows_fine.true u.value-is u.rows_fine.ensures
      | else-lines_fine u ↦ absurd (false≢true (sym u.if-lines_fine.false ∙ sym u.value-is ∙ v.if-rows_fine.true))
    ]
    | else-rows_fine v ↦ absurd (false≢true (sym v.if-rows_fine.false ∙ sym v.value-is ∙ w.if-locks_fine.true))
  ]
  | else-locks_fine w ↦ absurd (false≢true (sym w.if-locks_fine.false ∙ sym w.value-is ∙ c.if-room_fine.true))
]
