use Rattle.slots.proofs.Laws.{put_line_is}
use Rattle.slots.proofs.put_line.Goals as goal

pub returns : goal.returns
returns c =
    put_line_is c.args.slot.now _ c.args.line c.requires
    (rw (c.put_at-5.ensures, c.put_at-4.ensures, c.put_at-3.ensures, c.put_at-2.ensures, c.put_at.ensures))
