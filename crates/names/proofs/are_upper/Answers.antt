use Rattle.std.proofs.Common.{rules, tests, ◌∙◌}
use Rattle.std.proofs.lemmas.Iterator.{YieldsList-from_slice}
use Rattle.std.proofs.lemmas.Iterator.Search.{all_from_yields_List}
use Rattle.model.specs.Names.{is_upper}
use Rattle.names.proofs.Words.{all_is}
use Rattle.names.proofs.are_upper.Goals as goal

pub returns : goal.returns
returns c =
    all_from_yields_List is_upper _ _ _ c.all.ensures.ran (YieldsList-from_slice c.args.bytes.now cc) (λ x b q k. search (rules, tests))
    ∙ all_is is_upper c.args.bytes.now
