-- Demand 3 holds: the proofs of the statements of specs/Demand3.antt. Assumes nothing.
use mathlib.Core.Path.{sym, ap, ◌∙◌}
use mathlib.Core.Logic.{⊎_elim, inl, inr}
use Rattle.model.specs.Store.{Store}
use Rattle.model.specs.Read.{reading}
use Rattle.model.specs.Rows.{name_in, row_at}
use Rattle.model.specs.Demand3.{by, rows, A, B, C₁, C₂, D, E, F₁, F₂}
use Rattle.model.proofs.Kept.{reached_sound}
use Rattle.model.proofs.Commits.{stopped_at_lem, made_by, made_mono, stop_reading, stop_lines, done_whole, unsigned_stop}
use Rattle.model.proofs.Prefixes.{outside, old_or_new, never_back, no_log_left, updates_first_lem, all_new_lem}

-- a: the first k writes, and the count
pub a : A
a s reached prepared c h k = stopped_at_lem s prepared c k h

-- b: outside the rows
pub b : B
b s reached prepared c k n h =
    stop_reading s prepared c k n ∙ outside s (reached_sound s reached) (by c) (made_by c k s) n h

-- c: old or new, and never back
pub c₁ : C₁
c₁ s reached prepared c k i h =
    ⊎_elim (λ e. inl (stop_reading s prepared c k (name_in (row_at (rows s) i)) ∙ e))
    (λ e. inr (stop_reading s prepared c k (name_in (row_at (rows s) i)) ∙ e))
    (old_or_new s (reached_sound s reached) (by c) (made_by c k s) i h)

pub c₂ : C₂
c₂ s reached prepared c k j i h l e =
    stop_reading s prepared c j (name_in (row_at (rows s) i))
    ∙ never_back s (reached_sound s reached) (by c) (made_by c k s) (made_by c j s) i h (made_mono c k j s l)
    (sym (stop_reading s prepared c k (name_in (row_at (rows s) i))) ∙ e)

-- d: no log left
pub d : D
d s reached prepared c k i h deletes e =
    stop_lines s prepared c k (name_in (row_at (rows s) i))
    ∙ no_log_left s (reached_sound s reached) (by c) (made_by c k s) i h deletes
    (sym (stop_reading s prepared c k (name_in (row_at (rows s) i))) ∙ e)

-- e: updates first
pub e : E
e s reached prepared mode c k i j h g deletes q update =
    stop_reading s prepared c k (name_in (row_at (rows s) j))
    ∙ updates_first_lem s (reached_sound s reached) mode (by c) (made_by c k s) i j h g deletes
    (sym (stop_reading s prepared c k (name_in (row_at (rows s) i))) ∙ q) update

-- f: all new at the end, and before the first log line without a committer
pub f₁ : F₁
f₁ s reached prepared c k t g q i h =
    let w = done_whole s prepared c k t g q in
    ap (λ (x : Store). reading x (name_in (row_at (rows s) i))) w.0
    ∙ stop_reading s prepared c k (name_in (row_at (rows s) i))
    ∙ all_new_lem s (reached_sound s reached) (by c) (made_by c k s) i h w.1

pub f₂ : F₂
f₂ s reached prepared k made t q = unsigned_stop s prepared k made t q
