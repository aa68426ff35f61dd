use Rattle.region.proofs.ReadLaws.{setting_read}
use Rattle.region.proofs.setting.Goals as goal

pub returns : goal.returns
returns c = search setting_read
