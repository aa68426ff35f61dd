use Rattle.std.proofs.Common.{rules, tests, ◌∙◌, ◌-◌, length, take, drop, refl, arith}
use Rattle.std.proofs.lemmas.Iterator.{YieldsList-from_range}
use Rattle.std.proofs.lemmas.Iterator.Search.{any_from_yields_List}
use Rattle.model.specs.Names.{begins}
use Rattle.names.proofs.Words.{within_empty, within_places}
use Rattle.names.proofs.spelling.contains.Goals as goal

pub returns-then-is_empty : goal.returns-then-is_empty
returns-then-is_empty c = search within_empty

pub returns-else-is_empty : goal.returns-else-is_empty
returns-else-is_empty c =
    let n = c.args.name.now in
    any_from_yields_List (λ i. begins c.args.part.now (take (length n - i) (drop i n))) _ _ c.any.result c.any.ensures.ran
    (YieldsList-from_range 0 (length n) (length n) refl (omega arith)) (λ x b q k. search (rules, tests))
    ∙ within_places c.args.part.now n _ c.is_empty.ensures c.if-is_empty.false
