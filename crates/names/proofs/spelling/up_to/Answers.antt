use Rattle.std.proofs.Common.{rules, tests}
use Rattle.std.proofs.lemmas.Iterator.{YieldsList-from_slice}
use Rattle.std.proofs.lemmas.Iterator.Search.{position_from_yields_List}
use Rattle.names.proofs.Words.{place_found}
use Rattle.names.proofs.spelling.up_to.Goals as goal

pub returns : goal.returns
returns c =
    let p = position_from_yields_List _ _ _ c.position.result c.position.ensures.ran (YieldsList-from_slice c.args.bytes.now cc) (λ x b q k. search (rules, tests)) in
    place_found c.args.byte c.args.bytes.now _ p _ c.unwrap_or.ensures
