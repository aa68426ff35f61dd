use Rattle.reader.proofs.Whole.{site_none, site_left, site_sized, site_is}
use Rattle.reader.proofs.site_in.Goals as goal

pub returns-then-part-eq0 : goal.returns-then-part-eq0
returns-then-part-eq0 c = search site_none

pub returns-then-version-ne-VERSION_2 : goal.returns-then-version-ne-VERSION_2
returns-then-version-ne-VERSION_2 c = search site_left

pub returns-then-part : goal.returns-then-part
returns-then-part c = search site_sized

pub returns : goal.returns
returns c = search site_is
