-- Rows that pass their rules have registered names. Assumes nothing.
use mathlib.Core.Path.{◌≡◌, sym, ◌∙◌}
use mathlib.Core.Bool.{Bool, false, not}
use borrow.Author.Tests.{not-false}
use Rattle.word.proofs.Tests.{every_at, below_true}
use Rattle.model.specs.Store.{Store, count, rows_in}
use Rattle.model.specs.Fine.{row_rules, fine_rows}
use Rattle.model.proofs.FineEdit.{row_name}
use Rattle.rows.specs.Rows.{Named}

pub rows_named : (s : Store) (c : Bool) → c ≡ fine_rows s → not c ≡ false → Named s
unfolding fine_rows
rows_named s c e n = record {
  named = λ i h. row_name (count s) (rows_in s.prepared) i (below_true _ _ (every_at (row_rules s) 1 (sym e ∙ not-false c n)) i h);
}
