use Rattle.ordering.proofs.Sorts.{good_laid, order_rises, order_more}
use Rattle.ordering.proofs.sort_in.Goals as goal

pub packed_at-requires-clause-laid : goal.packed_at-requires-clause-laid
packed_at-requires-clause-laid c =
    search good_laid

pub place-at-requires-clause-laid : goal.place-at-requires-clause-laid
place-at-requires-clause-laid c =
    search good_laid

pub place-at-requires-clause-numbers_value : goal.place-at-requires-clause-numbers_value
place-at-requires-clause-numbers_value c =
    search order_rises

pub returns : goal.returns
returns c = search order_more
