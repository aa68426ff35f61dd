use Rattle.scribe.proofs.Outcomes.{unknown, refused, small, short, done}
use Rattle.scribe.proofs.write.Goals as goal

pub returns-then-not-is_version : goal.returns-then-not-is_version
returns-then-not-is_version c = search unknown

pub returns-then-not-is_writable : goal.returns-then-not-is_writable
returns-then-not-is_writable c = search refused

pub length_of-length-requires : goal.length_of-length-requires
length_of-length-requires c = search small

pub returns-then-buffer-length : goal.returns-then-buffer-length
returns-then-buffer-length c = search short

pub returns : goal.returns
returns c = search done
