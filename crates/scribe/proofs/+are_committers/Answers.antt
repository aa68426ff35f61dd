use mathlib.Core.Path.{ap}
use mathlib.Core.Bool.{not}
use Rattle.scribe.proofs.Given.{none_given, lengths_left, numbers_left, heading_off, name_short, committers_more}
use Rattle.scribe.proofs.+are_committers.Goals as goal

pub returns-then-lengths-eq0 : goal.returns-then-lengths-eq0
returns-then-lengths-eq0 t c = search none_given

pub returns-then-numbers-eq0 : goal.returns-then-numbers-eq0
returns-then-numbers-eq0 t c = search lengths_left

pub returns-then-lengths-eq0-2 : goal.returns-then-lengths-eq0-2
returns-then-lengths-eq0-2 t c = search numbers_left

pub returns-then-not-is_heading : goal.returns-then-not-is_heading
returns-then-not-is_heading t c = search heading_off

pub returns-then-names-end : goal.returns-then-names-end
returns-then-names-end t c = search name_short

pub returns : goal.returns
returns t c =
    committers_more
    c.args.numbers.now
    c.args.lengths.now
    c.args.names.now
    c.args.last
    c.if-numbers-eq0.false
    c.if-lengths-eq0-2.false
    _
    c.is_heading.ensures
    _
    (ap not c.if-not-is_heading.false)
    c.if-names-end.false
    (λ i. (c.type_inv.names i).fits)
    c.are_committers.ensures
