use Rattle.writers.proofs.LineLaws.{line_gone, line_kept, fits_line}
use Rattle.writers.proofs.move_line.Goals as goal

pub returns-then-eq : goal.returns-then-eq
returns-then-eq c =
    line_gone _ _ _ _ c.line_at-line.result _ c.requires.laid c.line_at-line.ensures c.eq.ensures c.if-eq.true

pub put_line_at-requires-clause-laid : goal.put_line_at-requires-clause-laid
put_line_at-requires-clause-laid c =
    c.requires.laid

pub put_line_at-requires-clause-fits_line : goal.put_line_at-requires-clause-fits_line
put_line_at-requires-clause-fits_line c =
    fits_line _ c.requires.laid _ _ c.requires.i_in_bounds.0 c.line_at-line.ensures

pub returns : goal.returns
returns c =
    line_kept _ _ _ _ _ c.line_at-line.result _ c.line_at-line.ensures c.eq.ensures c.if-eq.false c.put_line_at.ensures
