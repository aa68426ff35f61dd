use Rattle.reader.proofs.Told.{read_stranger, read_empty, read_unknown, read_newer, read_is}
use Rattle.reader.proofs.read.Goals as goal

pub returns-then-not-is_version : goal.returns-then-not-is_version
returns-then-not-is_version c = search read_stranger

pub returns-then-bytes-eq0 : goal.returns-then-bytes-eq0
returns-then-bytes-eq0 c = search read_empty

pub returns-then-not-is_version-2 : goal.returns-then-not-is_version-2
returns-then-not-is_version-2 c = search read_unknown

pub returns-then-version-known : goal.returns-then-version-known
returns-then-version-known c = search read_newer

pub returns : goal.returns
returns c = rw c.ok_or.ensures.value (search read_is)
