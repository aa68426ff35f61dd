use Rattle.std.proofs.Common.{◌∙◌}
use Rattle.names.proofs.Words.{begins_is}
use Rattle.names.proofs.spelling.begins_with.Goals as goal

pub returns : goal.returns
returns c = c.starts_with.ensures.value ∙ begins_is c.args.name.now c.args.prefix.now
