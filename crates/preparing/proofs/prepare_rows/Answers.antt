use Rattle.preparing.proofs.Preparing.{refused_back, taken_done, taken_named}
use Rattle.preparing.proofs.prepare_rows.Goals as goal

pub hold_rows-requires-clause-named : goal.hold_rows-requires-clause-named
hold_rows-requires-clause-named c =
    search taken_named

pub returns-in-Err : goal.returns-in-Err
returns-in-Err c = search refused_back

pub returns : goal.returns
returns c = search taken_done
