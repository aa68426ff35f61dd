use borrow.Author.Tests.{eq-eqb, ne_eqb}
use Rattle.target.proofs.ObjectNumber.new.Goals as goal

pub returns-then-number-eq-NULL : goal.returns-then-number-eq-NULL
returns-then-number-eq-NULL c = simp (eq-eqb _ _ c.if-number-eq-NULL.true)

pub returns-else-number-eq-NULL : goal.returns-else-number-eq-NULL
returns-else-number-eq-NULL c = simp (ne_eqb _ _ c.if-number-eq-NULL.false)
