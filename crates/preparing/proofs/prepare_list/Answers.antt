use Rattle.preparing.proofs.Preparing.{all_in, list_out, list_done}
use Rattle.preparing.proofs.prepare_list.Goals as goal

pub prepare_rows-requires-clause-list_value_2 : goal.prepare_rows-requires-clause-list_value_2
prepare_rows-requires-clause-list_value_2 c =
    search all_in

pub returns-in-Some : goal.returns-in-Some
returns-in-Some c = search list_out

pub returns : goal.returns
returns c = search list_done
