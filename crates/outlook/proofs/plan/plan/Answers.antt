use Rattle.writes.proofs.Named.{fine_named, told_first}
use Rattle.word.proofs.Flags.{all_down}
use Rattle.outlook.proofs.plan.plan.Goals as goal

pub flag_lines-requires-clause-flags : goal.flag_lines-requires-clause-flags
flag_lines-requires-clause-flags g c =
    search all_down

pub tell_all-requires-clause-named : goal.tell_all-requires-clause-named
tell_all-requires-clause-named g c =
    search fine_named

pub tell_all-requires-clause-told : goal.tell_all-requires-clause-told
tell_all-requires-clause-told g c =
    search told_first
