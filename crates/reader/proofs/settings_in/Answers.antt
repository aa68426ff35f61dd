use Rattle.reader.proofs.Whole.{frame_short, rest_fits, frame_other, frame_is}
use Rattle.reader.proofs.settings_in.Goals as goal

pub returns-then-bytes-lt-ENTRIES : goal.returns-then-bytes-lt-ENTRIES
returns-then-bytes-lt-ENTRIES c = search frame_short

pub overflow_add-rest : goal.overflow_add-rest
overflow_add-rest c = search rest_fits

pub returns-then-rest-bytes : goal.returns-then-rest-bytes
returns-then-rest-bytes c = search frame_other

pub returns : goal.returns
returns c = search frame_is
