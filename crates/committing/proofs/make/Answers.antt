use Rattle.committing.proofs.Making.{line_room, line_fits, loose_named, loose_fits, pack_named, pack_apart, removed_named, makes_nothing, makes_line, makes_loose, makes_log, makes_packed, makes_gone}
use Rattle.committing.proofs.make.Goals as goal

pub add_line-requires-clause-region_len_bound : goal.add_line-requires-clause-region_len_bound
add_line-requires-clause-region_len_bound c = line_room _ _ c.requires.makes _ c.in-Some-AppendLine.is _ (rw c.in-Some-AppendLine.is at c.in-Some-AppendLine.field-0-is)

pub add_line-requires-clause-fits_line : goal.add_line-requires-clause-fits_line
add_line-requires-clause-fits_line c = line_fits _ _ c.requires.makes _ c.in-Some-AppendLine.is _ (rw c.in-Some-AppendLine.is at c.in-Some-AppendLine.field-0-is)

pub put_loose_at-requires-clause-n_bound : goal.put_loose_at-requires-clause-n_bound
put_loose_at-requires-clause-n_bound c = loose_named _ _ c.requires.makes _ c.in-Some-WriteLoose.is _ _ (rw c.in-Some-WriteLoose.is at c.in-Some-WriteLoose.field-0-is)

pub put_loose_at-requires-clause-fits_loose : goal.put_loose_at-requires-clause-fits_loose
put_loose_at-requires-clause-fits_loose c = loose_fits _ _ c.requires.makes _ c.in-Some-WriteLoose.is _ _ (rw c.in-Some-WriteLoose.is at c.in-Some-WriteLoose.field-0-is)

pub pack_rows-requires-clause-named : goal.pack_rows-requires-clause-named
pack_rows-requires-clause-named c = pack_named _ _ c.requires.makes _ c.in-Some-WritePacked.is (rw c.in-Some-WritePacked.is at c.in-Some-WritePacked.field-0-is)

pub pack_rows-requires-clause-apart : goal.pack_rows-requires-clause-apart
pack_rows-requires-clause-apart c = pack_apart _ _ c.requires.makes _ c.in-Some-WritePacked.is (rw c.in-Some-WritePacked.is at c.in-Some-WritePacked.field-0-is)

pub put_loose_at-requires-in-Some-RemoveLoose-clause-n_bound : goal.put_loose_at-requires-in-Some-RemoveLoose-clause-n_bound
put_loose_at-requires-in-Some-RemoveLoose-clause-n_bound c = removed_named _ _ c.requires.makes _ c.in-Some-RemoveLoose.is _ (rw c.in-Some-RemoveLoose.is at c.in-Some-RemoveLoose.field-0-is)

pub returns-in-None : goal.returns-in-None
returns-in-None c = search makes_nothing

pub returns-in-Some-AppendLine : goal.returns-in-Some-AppendLine
returns-in-Some-AppendLine c = makes_line _ _ _ _ c.in-Some-AppendLine.is _ (rw c.in-Some-AppendLine.is at c.in-Some-AppendLine.field-0-is) c.add_line.ensures

pub returns-in-Some-WriteLoose : goal.returns-in-Some-WriteLoose
returns-in-Some-WriteLoose c = makes_loose _ _ _ _ c.in-Some-WriteLoose.is _ _ (rw c.in-Some-WriteLoose.is at c.in-Some-WriteLoose.field-0-is) c.put_loose_at.ensures

pub returns-in-Some-RemoveLog : goal.returns-in-Some-RemoveLog
returns-in-Some-RemoveLog c = makes_log _ _ _ _ c.in-Some-RemoveLog.is _ (rw c.in-Some-RemoveLog.is at c.in-Some-RemoveLog.field-0-is) c.remove_lines.ensures

pub returns-in-Some-WritePacked : goal.returns-in-Some-WritePacked
returns-in-Some-WritePacked c = makes_packed _ _ _ _ c.in-Some-WritePacked.is (rw c.in-Some-WritePacked.is at c.in-Some-WritePacked.field-0-is) c.pack_rows.ensures

pub returns-in-Some-RemoveLoose : goal.returns-in-Some-RemoveLoose
returns-in-Some-RemoveLoose c = makes_gone _ _ _ _ c.in-Some-RemoveLoose.is _ (rw c.in-Some-RemoveLoose.is at c.in-Some-RemoveLoose.field-0-is) c.put_loose_at-in-Some-RemoveLoose.ensures
