use Rattle.layout.proofs.Laws.{version_bad, size_bad, setting_bad, names_bad, lines_bad, head_rest}
use Rattle.layout.proofs.head_ok.Goals as goal

pub returns-then-get_at-ne-VERSION : goal.returns-then-get_at-ne-VERSION
returns-then-get_at-ne-VERSION c = search version_bad

pub returns-then-get_at-ne-REST : goal.returns-then-get_at-ne-REST
returns-then-get_at-ne-REST c = search size_bad

pub returns-then-get_at-gt-ALWAYS : goal.returns-then-get_at-gt-ALWAYS
returns-then-get_at-gt-ALWAYS c = search setting_bad

pub returns-then-names-gt-LIMIT : goal.returns-then-names-gt-LIMIT
returns-then-names-gt-LIMIT c = search names_bad

pub returns-then-lines-gt-LIMIT : goal.returns-then-lines-gt-LIMIT
returns-then-lines-gt-LIMIT c = search lines_bad

pub returns : goal.returns
returns c = search head_rest
