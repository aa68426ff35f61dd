use Rattle.writers.proofs.LineLaws.{put_line_is}
use Rattle.writers.proofs.put_line_at.Goals as goal

pub returns : goal.returns
returns c = search put_line_is
