use Rattle.preparing.proofs.Preparing.{formed_is, idle_unformed, idle_unmoded, idle_done}
use Rattle.preparing.proofs.prepare_idle.Goals as goal

pub returns-then-not-is_list : goal.returns-then-not-is_list
returns-then-not-is_list c = search idle_unformed

pub returns-in_default : goal.returns-in_default
returns-in_default c = search idle_unmoded

pub prepare_list-requires-clause-list_value : goal.prepare_list-requires-clause-list_value
prepare_list-requires-clause-list_value c =
    search formed_is

pub returns : goal.returns
returns c = search idle_done
