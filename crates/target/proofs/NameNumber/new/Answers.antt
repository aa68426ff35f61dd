use borrow.Author.Tests.{lt-ltb, le-ltb}
use Rattle.target.proofs.NameNumber.new.Goals as goal

pub returns-then-number-names : goal.returns-then-number-names
returns-then-number-names c = simp (lt-ltb _ _ c.if-number-names.true)

pub returns-else-number-names : goal.returns-else-number-names
returns-else-number-names c = simp (le-ltb _ _ c.if-number-names.false)
