use Rattle.reader.proofs.Entries.{content_short, content_none, content_past, content_other, content_is}
use Rattle.reader.proofs.content_of.Goals as goal

pub returns-then-part-lt-CONTENT : goal.returns-then-part-lt-CONTENT
returns-then-part-lt-CONTENT c = search content_short

pub returns-then-rest-eq0 : goal.returns-then-rest-eq0
returns-then-rest-eq0 c = search content_none

pub returns-then-part-rest : goal.returns-then-part-rest
returns-then-part-rest c = search content_past

pub returns-then-get_at-tag : goal.returns-then-get_at-tag
returns-then-get_at-tag c = search content_other

pub returns : goal.returns
returns c = search content_is
