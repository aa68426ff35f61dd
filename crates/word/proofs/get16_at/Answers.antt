use Rattle.word.proofs.Parts.{short}
use Rattle.word.proofs.get16_at.Goals as goal

pub overflow_cast-result : goal.overflow_cast-result
overflow_cast-result c =
    let a = c.args in
    record { fits = short a.s.now a.at _ c.get_at.ensures (λ i. (c.shared_slice_known-1.given i).fits) }
